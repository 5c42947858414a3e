-- A leaf is found by its box.
use Rattle.std.proofs.Common.{◌≡◌, ℕ, suc, ◌+◌, ◌<◌, ◌≤◌, max, Bool, true, false, Some, List, [], ◌++◌, reverse, length, take}
use Rattle.std.proofs.Common.{drop, refl, sym, ap, ◌∙◌, subst, arith}
use Rattle.std.specs.List.{refill}
use Rattle.std.proofs.lemmas.List.{length-reverse}
use Rattle.std.proofs.Math.Seq.{take-append_seam}
use Rattle.slab.specs.Slab.{Slab, get}
use Rattle.fixed_box.specs.Bounds.{Bounds, encloses}
use Rattle.tree_nodes.specs.declared.node_view.NodeView.{NodeView}
use Rattle.tree_nodes.specs.declared.node_view.NodeView.TheVariants.{Leaf, Inner}
use Rattle.tree_nodes.specs.Parts.{height_shown}
use Rattle.tree_nodes.specs.Path.{Leads, ToSearch, PathFound}
use Rattle.tree_nodes.specs.Tree.{Tree, fork, bounds, height, Balanced, view_at}
use Rattle.tree_nodes.proofs.Opened.{height_in_slab}
use Rattle.tree_nodes.proofs.Rotations.{children}

-- what a search outside a hull tells
pub outside : (slab : Slab NodeView) (at left right k node : ℕ) (hu fat : Bounds) (t : Tree)
    → ((t : Tree) (node s : ℕ) (b : Bounds) → Balanced t → view_at t node ≡ Some (Leaf s b) → encloses (bounds t) b ≡ true) → ToSearch slab at t
    → get slab at ≡ Some (Inner left right hu k) → encloses hu fat ≡ false → PathFound node fat t false []
outside slab at left right k node hu fat t inside w e out =
    let c = children slab at left right k hu t w.kept e in
    let b : bounds t ≡ hu = ap bounds c.2 in
    record {
      leads = λ q. cc;
      missed = λ q. refl;
      none = λ s q g. let i : encloses hu fat ≡ true = subst (λ x. encloses x fat ≡ true) b (inside t node s fat w.balanced g) in cc;
      short = omega arith;
    }

-- the inner_of trees below
pub both_below : (slab : Slab NodeView) (at left right k : ℕ) (hu : Bounds) (t : Tree) → ToSearch slab at t → get slab at ≡ Some (Inner left right hu k)
    → (f : Tree) × (g : Tree) × (t ≡ fork at hu k f g) × ToSearch slab left f × ToSearch slab right g × (suc (height f) ≤ k) × (suc (height g) ≤ k) × (k ≤ 18)
both_below slab at left right k hu t w e =
    let c = children slab at left right k hu t w.kept e in
    let b : Balanced (fork at hu k c.0 c.1) = subst Balanced c.2 w.balanced in
    let low : k ≤ 18 = subst (λ t. height t ≤ 18) c.2 w.low in
    let hi : k ≡ 1 + max (height c.0) (height c.1) = b.0.height_is in
    let fl : suc (height c.0) ≤ k = grind (arith) in
    let gl : suc (height c.1) ≤ k = grind (arith) in
    (c.0, c.1, c.2, record { kept = c.3; balanced = b.1; low = omega arith }, record { kept = c.4; balanced = b.2; low = omega arith }, fl, gl, low)

pub falls : (slab : Slab NodeView) (at b k : ℕ) (t f : Tree) → ToSearch slab at t → ToSearch slab b f → height t ≡ k → suc (height f) ≤ k
    → height_shown (get slab b) < height_shown (get slab at)
falls slab at b k t f w v e hi =
    let x = height_in_slab slab at t w.kept in
    let y = height_in_slab slab b f v.kept in
    omega arith

whole : (path reversed : List ℕ) → length reversed ≡ length path → refill (length path) path reversed ≡ reversed
whole path reversed e =
    ap (λ n. take n (reversed ++ drop (length reversed) path)) (sym e) ∙ take-append_seam reversed (drop (length reversed) path)

-- the path from the root
pub path_found : (slab : Slab NodeView) (node s sl : ℕ) (b fat : Bounds) (t : Tree) (found : Bool) (path reversed : List ℕ) → get slab node ≡ Some (Leaf s b)
    → get slab node ≡ Some (Leaf sl fat) → view_at t node ≡ Some (Leaf s b) → PathFound node fat t found path → reversed ≡ reverse path
    → Leads t (refill (length path) path reversed) node
path_found slab node s sl b fat t found path reversed g h e w is =
    let same : b ≡ fat = cc in
    let e2 : view_at t node ≡ Some (Leaf s fat) = subst (λ x. view_at t node ≡ Some (Leaf s x)) same e in
    let hit : found ≡ true = elim found as (λ f. found ≡ f → f ≡ true) [ true ↦ λ _. refl | false ↦ λ q. absurd (w.none s q e2) ] refl in
    let full : refill (length path) path reversed ≡ reversed = whole path reversed (ap length is ∙ length-reverse path) in
    subst (λ p. Leads t p node) (sym (full ∙ is)) (w.leads hit)
