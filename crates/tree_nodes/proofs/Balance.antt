-- What a rotation leaves is balanced.
use Rattle.std.proofs.Common.{◌≡◌, ℕ, ◌+◌, ◌≤◌, max, nat_lt, true, false, cond, refl, sym, subst, arith}
use Rattle.std.proofs.lemmas.Bool.Decides.{nat_tests}
use Rattle.tree_nodes.specs.Moved.{refitted}
use Rattle.tree_nodes.specs.Rotation.{BalancedNear, rotated, rotated_up, rebalanced}
use Rattle.tree_nodes.specs.Tree.{Tree, tip, fork, height, Balanced}

pub refitted_balanced : (n : ℕ) (l r : Tree) → Balanced l → Balanced r → height l ≤ height r + 1 → height r ≤ height l + 1 → Balanced (refitted n l r)
refitted_balanced n l r bl br lo ro = (record { hull_is = refl; height_is = refl; left_low = lo; right_low = ro }, bl, br)

-- the lower grandchild is at most one below the higher, and that is one below the child
pub rotated_balanced : (m n : ℕ) (low f g : Tree) → Balanced low → Balanced f → Balanced g → height f ≤ height g → height g ≤ height f + 1
    → height g ≡ height low + 1 → BalancedNear (rotated m n low f g) (height low + 2)
rotated_balanced m n low f g bl bf bg le ge e =
    let ho : height f ≤ height low + 1 = omega arith in
    let lo : height low ≤ height f + 1 = omega arith in
    record {
      balanced = refitted_balanced m (refitted n low f) g (refitted_balanced n low f bl bf lo ho) bg (grind (arith)) (grind (arith));
      least = grind (arith);
      most = grind (arith);
    }

pub rotated_up_balanced : (n : ℕ) (low h : Tree) → Balanced low → Balanced h → height h ≡ height low + 2 → BalancedNear (rotated_up n low h) (height h)
rotated_up_balanced n low (tip m s b) bl bh e = absurd (omega arith)
rotated_up_balanced n low (fork m hu k f g) bl bh e =
    let kk : k ≡ 1 + max (height f) (height g) = bh.0.height_is in
    let fl : height f ≤ height g + 1 = bh.0.left_low in
    let gl : height g ≤ height f + 1 = bh.0.right_low in
    let e2 : k ≡ height low + 2 = e in
    elim (nat_lt (height f) (height g)) as (λ b. nat_lt (height f) (height g) ≡ b → BalancedNear (rotated m n low (cond b f g) (cond b g f)) k) [
      | true ↦ λ lt. subst (BalancedNear (rotated m n low f g)) (sym e2)
          (rotated_balanced m n low f g bl bh.1 bh.2 (grind (arith, nat_tests)) gl (grind (arith, nat_tests)))
      | false ↦ λ ge. subst (BalancedNear (rotated m n low g f)) (sym e2)
          (rotated_balanced m n low g f bl bh.2 bh.1 (grind (arith, nat_tests)) fl (grind (arith, nat_tests)))
    ] refl

-- the whole: of inner_of balanced trees whose heights differ by at most inner_of
pub rebalanced_balanced : (n : ℕ) (l r : Tree) → Balanced l → Balanced r → height l ≤ height r + 2 → height r ≤ height l + 2
    → BalancedNear (rebalanced n l r) (max (height l) (height r))
rebalanced_balanced n l r bl br lo ro =
    elim (nat_lt (height r + 1) (height l)) as (λ b. nat_lt (height r + 1) (height l) ≡ b
    → BalancedNear (cond b (rotated_up n r l) (cond (nat_lt (height l + 1) (height r)) (rotated_up n l r) (refitted n l r))) (max (height l) (height r))) [
      | true ↦ λ lt. let e : height l ≡ height r + 2 = grind (arith, nat_tests) in let m : max (height l) (height r) ≡ height l = grind (arith) in
          subst (BalancedNear (rotated_up n r l)) (sym m) (rotated_up_balanced n r l br bl e)
      | false ↦ λ ge. elim (nat_lt (height l + 1) (height r)) as (λ b. nat_lt (height l + 1) (height r) ≡ b
          → BalancedNear (cond b (rotated_up n l r) (refitted n l r)) (max (height l) (height r))) [
            | true ↦ λ lt. let e : height r ≡ height l + 2 = grind (arith, nat_tests) in let m : max (height l) (height r) ≡ height r = grind (arith) in
                subst (BalancedNear (rotated_up n l r)) (sym m) (rotated_up_balanced n l r bl br e)
            | false ↦ λ ge2. record {
              balanced = refitted_balanced n l r bl br (grind (arith, nat_tests)) (grind (arith, nat_tests));
              least = omega arith;
              most = omega arith;
            }
          ] refl
    ] refl
