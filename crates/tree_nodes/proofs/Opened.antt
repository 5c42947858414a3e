-- The two trees below an inner node, whichever way round.
use Rattle.std.proofs.Common.{◌≡◌, ℕ, ◌≤◌, ◌++◌, Some, refl, sym, ap, ◌∙◌, subst}
use Rattle.std.proofs.Common.{arith, inl, inr, ⊎_elim, ◌⊎◌}
use Rattle.std.proofs.lemmas.List.Sorted.{IsPermutation-refl, IsPermutation-trans, IsPermutation-append_comm}
use Rattle.slab.specs.Slab.{Slab, get}
use Rattle.fixed_box.specs.Bounds.{Bounds}
use Rattle.tree_nodes.specs.declared.node_view.NodeView.{NodeView}
use Rattle.tree_nodes.specs.declared.node_view.NodeView.TheVariants.{Leaf, Inner}
use Rattle.tree_nodes.specs.Parts.{Opened, height_shown}
use Rattle.tree_nodes.specs.Stored.{StandsAt}
use Rattle.tree_nodes.specs.Tree.{Tree, tip, fork, top, count_of, one, height, Balanced, leaves}
use Rattle.tree_nodes.proofs.Frames.{one_same}
use Rattle.tree_nodes.proofs.Rotations.{children}

pub top_counted : (t : Tree) → 1 ≤ count_of t (top t)
top_counted (tip n s b) = let e : one n n ≡ 1 = one_same n in omega arith
top_counted (fork n h k l r) = let e : one n n ≡ 1 = one_same n in omega arith

pub height_in_slab : (slab : Slab NodeView) (at : ℕ) (t : Tree) → StandsAt slab at t → height_shown (get slab at) ≡ height t
height_in_slab slab at (tip n s b) p =
    let h : get slab n ≡ Some (Leaf s b) = p.holds in let e : n ≡ at = p.is_at in ap (λ k. height_shown (get slab k)) (sym e) ∙ ap height_shown h
height_in_slab slab at (fork n hu k l r) p = let h = p.holds.0 in let e : n ≡ at = p.is_at in ap (λ k. height_shown (get slab k)) (sym e) ∙ ap height_shown h

-- the two trees in the order in which they stand
pub as_it_is : (slab : Slab NodeView) (at left right k : ℕ) (hu : Bounds) (t f g : Tree) → t ≡ fork at hu k f g → StandsAt slab left f → StandsAt slab right g
    → Balanced t → Opened slab at left right t f g
as_it_is slab at left right k hu t f g e p q bal =
    let b : Balanced (fork at hu k f g) = subst Balanced e bal in
    subst (λ t. Opened slab at left right t f g) (sym e) (record {
      down_kept = p;
      stay_kept = q;
      counts_are = λ x. refl;
      leaves_are = IsPermutation-refl _;
      down_balanced = b.1;
      stay_balanced = b.2;
      height_is = b.0.height_is;
      down_low = b.0.left_low;
      stay_low = b.0.right_low;
    })

-- the same the other way round
pub opened_reversed : (slab : Slab NodeView) (at down stay : ℕ) (t d s : Tree) → Opened slab at down stay t d s → Opened slab at stay down t s d
opened_reversed slab at down stay t d s o = record {
  down_kept = o.stay_kept;
  stay_kept = o.down_kept;
  counts_are = λ x. let u = o.counts_are x in omega arith;
  leaves_are = IsPermutation-trans (leaves s ++ leaves d) (leaves d ++ leaves s) (leaves t) (IsPermutation-append_comm (leaves s) (leaves d)) o.leaves_are;
  down_balanced = o.stay_balanced;
  stay_balanced = o.down_balanced;
  height_is = let e = o.height_is in grind (arith);
  down_low = o.stay_low;
  stay_low = o.down_low;
}

-- what is below an inner node, either way round
pub opened : (slab : Slab NodeView) (at left right k : ℕ) (hu : Bounds) (t : Tree) (r : ℕ × ℕ) → StandsAt slab at t → Balanced t
    → get slab at ≡ Some (Inner left right hu k) → (r ≡ (left, right)) ⊎ (r ≡ (right, left))
    → (d : Tree) × (s : Tree) × Opened slab at r.0 r.1 t d s × ((t ≡ fork at hu k d s) ⊎ (t ≡ fork at hu k s d))
opened slab at left right k hu t r p bal e pick =
    let c = children slab at left right k hu t p e in
    let f = c.0 in
    let g = c.1 in
    let o = as_it_is slab at left right k hu t f g c.2 c.3 c.4 bal in
    ⊎_elim
    (λ w. (f, g, subst (λ (q : ℕ × ℕ). Opened slab at q.0 q.1 t f g) (sym w) o, inl c.2))
    (λ w. (g, f, subst (λ (q : ℕ × ℕ). Opened slab at q.0 q.1 t g f) (sym w) (opened_reversed slab at left right t f g o), inr c.2))
    pick
