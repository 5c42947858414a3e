-- The new slot is the next one.
use Rattle.std.proofs.Common.{◌≡◌, ◌≢◌, ◌+◌, ◌<◌, ℕ, suc, List, ◌∷◌, length, All, refl, arith}
use Rattle.std.specs.List.Sorted.{IsPermutation}
use Rattle.std.proofs.lemmas.List.Elements.{All-cons, All-weaker}
use Rattle.std.proofs.lemmas.List.Sorted.{All-permutation, length_permutation}
use Rattle.tree_nodes.specs.Tree.{Leaf, leaves_in}
use Rattle.structure_tests.proofs.nodes.add_next.Goals as goal

below_differs : (slot : ℕ) (x : Leaf) → x.slot < slot → x.slot ≢ slot
below_differs slot x h = λ e. absurd (omega arith)

below_more : (slot : ℕ) (x : Leaf) → x.slot < slot → x.slot < slot + 1
below_more slot x h = omega arith

pub add_leaf-requires-clause-absent : goal.add_leaf-requires-clause-absent
add_leaf-requires-clause-absent c =
    All-weaker (λ (x : Leaf). x.slot < c.args.slot) (λ x. x.slot ≢ c.args.slot) (below_differs c.args.slot) (leaves_in c.args.nodes.now) c.requires.filled.below

one_more : (xs ys : List Leaf) (x : Leaf) (slot : ℕ) → length xs ≡ slot → All (λ (x : Leaf). x.slot < slot) xs → x.slot ≡ slot → IsPermutation (x ∷ xs) ys
    → (length ys ≡ slot + 1) × All (λ (x : Leaf). x.slot < slot + 1) ys
one_more xs ys x slot count below is p =
    let long : length ys ≡ suc (length xs) = length_permutation (x ∷ xs) ys p in
    let here : x.slot < slot + 1 = omega arith in (
      omega arith,
      All-permutation (λ (x : Leaf). x.slot < slot + 1) (x ∷ xs) ys p
          (All-cons (λ (x : Leaf). x.slot < slot + 1) x xs here (All-weaker (λ (x : Leaf). x.slot < slot) (λ x. x.slot < slot + 1) (below_more slot) xs below)),
    )

pub returns-clause-filled : goal.returns-clause-filled
returns-clause-filled c =
    let both = one_more (leaves_in c.args.nodes.now) (leaves_in c.add_leaf.new.self)
    (record { node = c.add_leaf.result; slot = c.args.slot; fat = c.args.fat }) c.args.slot c.requires.filled.count c.requires.filled.below refl
    c.add_leaf.ensures.leaves in
    record { count = both.0; below = both.1 }
