-- What rebalancing keeps: the numbers and the leaves, and all where the heights differ by at most one.
use Rattle.std.proofs.Common.{◌≡◌, ℕ, ◌+◌, ◌≤◌, nat_lt, true, false, cond, List, ◌++◌, refl, sym, subst}
use Rattle.std.proofs.Common.{arith}
use Rattle.std.specs.List.Sorted.{IsPermutation}
use Rattle.std.proofs.Common.{append_assoc}
use Rattle.std.proofs.lemmas.Bool.Decides.{nat_tests}
use Rattle.std.proofs.lemmas.List.Sorted.{IsPermutation-refl, IsPermutation-trans, IsPermutation-append_comm}
use Rattle.std.proofs.lemmas.List.Sorted.{IsPermutation-append_right}
use Rattle.fixed_box.specs.Bounds.{Bounds}
use Rattle.tree_nodes.specs.Moved.{refitted}
use Rattle.tree_nodes.specs.Rotation.{rotated, rotated_up, rebalanced}
use Rattle.tree_nodes.specs.Tree.{Tree, tip, fork, count_of, one, height, leaves}

pub rebalanced_cases : (P : Tree → Type 0) (n : ℕ) (l r : Tree) → P (rotated_up n r l) → P (rotated_up n l r) → P (refitted n l r) → P (rebalanced n l r)
rebalanced_cases P n l r a b c =
    elim (nat_lt (height r + 1) (height l)) as (λ x. P (cond x (rotated_up n r l)
    (cond (nat_lt (height l + 1) (height r)) (rotated_up n l r) (refitted n l r)))) [
      | true ↦ a
      | false ↦ elim (nat_lt (height l + 1) (height r)) as (λ x. P (cond x (rotated_up n l r) (refitted n l r))) [ true ↦ b | false ↦ c ]
    ]

pub rotated_up_cases : (P : Tree → Type 0) (n : ℕ) (low : Tree) (m k : ℕ) (hu : Bounds) (f g : Tree) → P (rotated m n low f g) → P (rotated m n low g f)
    → P (rotated_up n low (fork m hu k f g))
rotated_up_cases P n low m k hu f g a b = elim (nat_lt (height f) (height g)) as (λ x. P (rotated m n low (cond x f g) (cond x g f))) [ true ↦ a | false ↦ b ]

pub rotated_up_counts : (n : ℕ) (low h : Tree) (k : ℕ) → count_of (rotated_up n low h) k ≡ one n k + (count_of low k + count_of h k)
rotated_up_counts n low (tip m s b) k = refl
rotated_up_counts n low (fork m hu j f g) k =
    rotated_up_cases (λ t. count_of t k ≡ one n k + (count_of low k + count_of (fork m hu j f g) k)) n low m j hu f g (omega arith) (omega arith)

pub rebalanced_counts : (n : ℕ) (l r : Tree) (k : ℕ) → count_of (rebalanced n l r) k ≡ one n k + (count_of l k + count_of r k)
rebalanced_counts n l r k =
    let a : count_of (rotated_up n r l) k ≡ one n k + (count_of r k + count_of l k) = rotated_up_counts n r l k in
    rebalanced_cases (λ t. count_of t k ≡ one n k + (count_of l k + count_of r k)) n l r (omega arith) (rotated_up_counts n l r k) refl

-- (a ++ f) ++ g and (a ++ g) ++ f from a ++ (f ++ g)
pub swapped : {A : Type 0} (a f g : List A) → IsPermutation (a ++ (f ++ g)) ((a ++ g) ++ f)
swapped a f g =
    subst (λ xs. IsPermutation (a ++ (f ++ g)) xs) (sym (append_assoc a g f)) (IsPermutation-append_right a (f ++ g) (g ++ f) (IsPermutation-append_comm f g))

pub joined : {A : Type 0} (a f g : List A) → IsPermutation (a ++ (f ++ g)) ((a ++ f) ++ g)
joined a f g = subst (λ xs. IsPermutation (a ++ (f ++ g)) xs) (sym (append_assoc a f g)) (IsPermutation-refl _)

pub rotated_up_leaves : (n : ℕ) (low h : Tree) → IsPermutation (leaves low ++ leaves h) (leaves (rotated_up n low h))
rotated_up_leaves n low (tip m s b) = IsPermutation-refl _
rotated_up_leaves n low (fork m hu j f g) =
    rotated_up_cases (λ t. IsPermutation (leaves low ++ (leaves f ++ leaves g)) (leaves t)) n low m j hu f g (joined (leaves low) (leaves f) (leaves g))
    (swapped (leaves low) (leaves f) (leaves g))

pub rebalanced_leaves : (n : ℕ) (l r : Tree) → IsPermutation (leaves l ++ leaves r) (leaves (rebalanced n l r))
rebalanced_leaves n l r = rebalanced_cases (λ t. IsPermutation (leaves l ++ leaves r) (leaves t)) n l r
    (IsPermutation-trans (leaves l ++ leaves r) (leaves r ++ leaves l) _ (IsPermutation-append_comm (leaves l) (leaves r)) (rotated_up_leaves n r l))
    (rotated_up_leaves n l r) (IsPermutation-refl _)

pub rebalanced_unrotated : (n : ℕ) (l r : Tree) → height l ≤ height r + 1 → height r ≤ height l + 1 → rebalanced n l r ≡ refitted n l r
rebalanced_unrotated n l r lo ro =
    let a : nat_lt (height r + 1) (height l) ≡ false = grind (arith, nat_tests) in
    let b : nat_lt (height l + 1) (height r) ≡ false = grind (arith, nat_tests) in
    rw (a, b) refl
