-- One child grows by at most one, and the node is rebalanced.
use Rattle.std.proofs.Common.{◌≡◌, ◌⊎◌, ℕ, ◌+◌, ◌<◌, false, ap, ◌∙◌, sym, subst, refl, Some, arith, IsSome}
use Rattle.slab.specs.Slab.{get}
use Rattle.fixed_box.specs.Bounds.{Bounds}
use Rattle.tree_nodes.specs.Insertion.{ToInsert, Inserted, Alike}
use Rattle.tree_nodes.specs.Parts.{Opened, height_shown}
use Rattle.tree_nodes.specs.Moved.{refitted}
use Rattle.tree_nodes.specs.Rotation.{ToAdjust}
use Rattle.tree_nodes.specs.Stored.{Holds}
use Rattle.tree_nodes.specs.Tree.{Tree, tip, fork, count_of, one}
use Rattle.tree_nodes.proofs.Adjusted.{adjusted}
use Rattle.tree_nodes.proofs.InsertingBelow.{leaf_children, leaf_inserted, step_down, step_rebalance, step_inserted, step_adjust, stay_free}
use Rattle.tree_nodes.proofs.InsertingBelow.{below_low, alike_of, untouched, still_inserted}
use Rattle.tree_nodes.proofs.Frames.{one_same, apart_held, writes_fewer, writes_both}
use Rattle.tree_nodes.proofs.Opened.{opened}
use Rattle.tree_nodes.proofs.Rotations.{children}
use Rattle.tree_nodes.proofs.linked_nodes.LinkedNodes.+insert_below.Goals.{After-by_distance-down, After-insert_below-below}
use Rattle.tree_nodes.proofs.linked_nodes.LinkedNodes.+insert_below.Goals as goal

pub refit-requires : goal.refit-requires
refit-requires t c =
    let p = c.requires in
    (p.2, tip c.args.leaf p.0 p.1, leaf_children c.args.self.now c.args.at c.args.leaf c.args.new_parent p.0 p.1 p.2 p.3)

pub by_distance-down-requires : goal.by_distance-down-requires
by_distance-down-requires t c =
    let p = c.requires in
    let s = children c.args.self.now c.args.at c.in-Inner.left c.in-Inner.right c.in-Inner.height c.in-Inner.hull p.2 p.3.kept
    (c.view.ensures ∙ ap Some c.in-Inner.is) in
    (s.0, s.1, s.3, s.4)

-- the two trees below the node, the one first that the leaf goes into
below : (n : ℕ) (c : After-by_distance-down n) (s : ℕ) (b : Bounds) (t : Tree) → ToInsert c.args.self.now c.args.at c.args.leaf c.args.new_parent s b t
    → (d : Tree) × (u : Tree) × Opened c.args.self.now c.args.at c.by_distance-down.result.0 c.by_distance-down.result.1 t d u
    × ToInsert c.args.self.now c.by_distance-down.result.0 c.args.leaf c.args.new_parent s b d
    × ((t ≡ fork c.args.at c.in-Inner.hull c.in-Inner.height d u) ⊎ (t ≡ fork c.args.at c.in-Inner.hull c.in-Inner.height u d))
below n c s b t p =
    let o = opened c.args.self.now c.args.at c.in-Inner.left c.in-Inner.right c.in-Inner.height c.in-Inner.hull t c.by_distance-down.result p.kept p.balanced
    (c.view.ensures ∙ ap Some c.in-Inner.is) c.by_distance-down.ensures in (
      o.0,
      o.1,
      o.2,
      step_down c.args.self.now c.args.at c.by_distance-down.result.0 c.by_distance-down.result.1 c.args.leaf c.args.new_parent s b t o.0 o.1 p o.2,
      o.3,
    )

-- that tree with the leaf, and the other one as it was
grown : (n : ℕ) (c : After-insert_below-below n) (s : ℕ) (b : Bounds) (t d u : Tree) → ToInsert c.args.self.now c.args.at c.args.leaf c.args.new_parent s b t
    → Opened c.args.self.now c.args.at c.by_distance-down.result.0 c.by_distance-down.result.1 t d u
    → ToInsert c.args.self.now c.by_distance-down.result.0 c.args.leaf c.args.new_parent s b d
    → (w : Tree) × Inserted c.insert_below-below.new.self c.insert_below-below.result.0 c.args.leaf c.args.new_parent s b d w
    × (c.insert_below-below.result.1 ≡ false → Alike d w) × Holds c.insert_below-below.new.self u
    × ToAdjust c.insert_below-below.new.self c.args.at c.insert_below-below.result.0 c.by_distance-down.result.1 w u
grown n c s b t d u p o r =
    let g = c.insert_below-below.ensures.there s b d r in
    let wrote = c.insert_below-below.ensures.writes s b d r in
    let held = apart_held c.args.self.now c.insert_below-below.new.self (λ k. count_of d k + (one c.args.leaf k + one c.args.new_parent k)) wrote u
    (stay_free c.args.self.now c.args.at c.by_distance-down.result.0 c.by_distance-down.result.1 c.args.leaf c.args.new_parent s b t d u p o)
    o.stay_kept.holds in (
      g.0,
      g.1,
      g.2,
      held,
      step_adjust c.insert_below-below.new.self c.args.self.now c.args.at c.by_distance-down.result.0 c.by_distance-down.result.1 c.insert_below-below.result.0
          c.args.leaf c.args.new_parent s b t d u g.0 o g.1
          (step_rebalance c.args.self.now c.insert_below-below.new.self c.args.at c.by_distance-down.result.0 c.by_distance-down.result.1
          c.insert_below-below.result.0 c.args.leaf c.args.new_parent s b t d u g.0 p o g.1
          (wrote.kept.here c.args.at (subst IsSome (sym c.view.ensures) refl)) held),
    )

pub insert_below-below-requires : goal.insert_below-below-requires
insert_below-below-requires t c =
    let p = c.requires in
    let o = below t (goal.at.insert_below-below-requires t c).After-by_distance-down p.0 p.1 p.2 p.3 in
    let lt = below_low c.args.self.now c.args.at c.by_distance-down.result.0 c.by_distance-down.result.1 p.2 o.0 o.1 p.3.kept o.2 in
    (subst (λ m. height_shown (get c.args.self.now c.by_distance-down.result.0) < m) c.decreases lt, (p.0, p.1, o.0, o.3))

pub rebalance-top-requires : goal.rebalance-top-requires
rebalance-top-requires t c =
    let p = c.requires in
    let at = goal.at.rebalance-top-requires t c in
    let o = below t at.After-by_distance-down p.0 p.1 p.2 p.3 in
    let g = grown t at.After-insert_below-below p.0 p.1 p.2 o.0 o.1 p.3 o.2 o.3 in
    (g.0, o.1, g.4.near)

pub returns-in-Leaf-clause-there : goal.returns-in-Leaf-clause-there
returns-in-Leaf-clause-there t c s b u p = (
  refitted c.args.new_parent u (tip c.args.leaf s b),
  leaf_inserted c.args.self.now c.refit.new.self c.args.at c.args.leaf c.args.new_parent s b u c.in-Leaf.slot c.in-Leaf.fat p
      (c.view.ensures ∙ ap Some c.in-Leaf.is)
      (c.refit.ensures.there u (tip c.args.leaf s b) (leaf_children c.args.self.now c.args.at c.args.leaf c.args.new_parent s b u p)),
  λ still. cc,
)

pub returns-else-not-changed-clause-there : goal.returns-else-not-changed-clause-there
returns-else-not-changed-clause-there t c s b x p =
    let at = goal.at.returns-else-not-changed-clause-there t c in
    let o = below t at.After-by_distance-down s b x p in
    let g = grown t at.After-insert_below-below s b x o.0 o.1 p o.2 o.3 in
    let w = adjusted c.insert_below-below.new.self c.rebalance-top.new.self c.args.at c.insert_below-below.result.0
    c.by_distance-down.result.1 c.rebalance-top.result g.0 o.1 g.4 (c.rebalance-top.ensures.there g.0 o.1) in (
      w.0,
      step_inserted c.args.self.now c.insert_below-below.new.self c.rebalance-top.new.self c.args.at c.by_distance-down.result.0 c.by_distance-down.result.1
          c.insert_below-below.result.0 c.rebalance-top.result c.args.leaf c.args.new_parent s b x o.0 o.1 g.0 w.0 o.2 g.1 w.1,
      λ still. alike_of c.args.at c.in-Inner.height c.in-Inner.hull x o.0 o.1 w.0 o.4 (c.is_other.ensures w.0 w.1.kept still),
    )

pub is_other-requires : goal.is_other-requires
is_other-requires t c =
    let p = c.requires in
    let at = goal.at.is_other-requires t c in
    let o = below t at.After-by_distance-down p.0 p.1 p.2 p.3 in
    let g = grown t at.After-insert_below-below p.0 p.1 p.2 o.0 o.1 p.3 o.2 o.3 in
    let w = adjusted c.insert_below-below.new.self c.rebalance-top.new.self c.args.at c.insert_below-below.result.0
    c.by_distance-down.result.1 c.rebalance-top.result g.0 o.1 g.4 (c.rebalance-top.ensures.there g.0 o.1) in
    (w.0, w.1.kept)

-- Where nothing of the child changed, the node is as it was.

pub returns-then-not-changed-clause-there : goal.returns-then-not-changed-clause-there
returns-then-not-changed-clause-there t c s b x p =
    let at = goal.at.returns-then-not-changed-clause-there t c in
    let o = below t at.After-by_distance-down s b x p in
    let g = grown t at.After-insert_below-below s b x o.0 o.1 p o.2 o.3 in
    let none : count_of o.0 c.args.at + (one c.args.leaf c.args.at + one c.args.new_parent c.args.at) ≡ 0 =
    (let a = p.apart c.args.at in let e = o.2.counts_are c.args.at in let i : one c.args.at c.args.at ≡ 1 = one_same c.args.at in omega arith) in
    let w = still_inserted c.args.self.now c.insert_below-below.new.self c.args.at c.in-Inner.height c.by_distance-down.result.0 c.by_distance-down.result.1
    c.insert_below-below.result.0 c.args.leaf c.args.new_parent s c.in-Inner.hull b x o.0 o.1 g.0 p.kept p.balanced o.2 g.1 (g.2 c.if-not-changed.true)
    ((c.insert_below-below.ensures.writes s b o.0 o.3).others c.args.at none) g.3 o.4 in
    (w.0, w.1, λ still. w.2)

-- What is written stands in the tree, or goes into it.

pub returns-in-Leaf-clause-writes : goal.returns-in-Leaf-clause-writes
returns-in-Leaf-clause-writes t c s b x p =
    writes_fewer c.args.self.now c.refit.new.self (λ k. one c.args.new_parent k) (λ k. count_of x k + (one c.args.leaf k + one c.args.new_parent k))
    c.refit.ensures.writes (λ k none. omega arith)

pub returns-then-not-changed-clause-writes : goal.returns-then-not-changed-clause-writes
returns-then-not-changed-clause-writes t c s b x p =
    let o = below t (goal.at.returns-then-not-changed-clause-writes t c).After-by_distance-down s b x p in
    writes_fewer c.args.self.now c.insert_below-below.new.self (λ k. count_of o.0 k + (one c.args.leaf k + one c.args.new_parent k))
    (λ k. count_of x k + (one c.args.leaf k + one c.args.new_parent k)) (c.insert_below-below.ensures.writes s b o.0 o.3)
    (λ k none. let e = o.2.counts_are k in omega arith)

pub returns-else-not-changed-clause-writes : goal.returns-else-not-changed-clause-writes
returns-else-not-changed-clause-writes t c s b x p =
    let at = goal.at.returns-else-not-changed-clause-writes t c in
    let o = below t at.After-by_distance-down s b x p in
    let g = grown t at.After-insert_below-below s b x o.0 o.1 p o.2 o.3 in
    writes_both c.args.self.now c.insert_below-below.new.self c.rebalance-top.new.self
    (λ k. count_of o.0 k + (one c.args.leaf k + one c.args.new_parent k))
    (λ k. one c.args.at k + (one c.insert_below-below.result.0 k + one c.by_distance-down.result.1 k))
    (λ k. count_of x k + (one c.args.leaf k + one c.args.new_parent k)) (c.insert_below-below.ensures.writes s b o.0 o.3) c.rebalance-top.ensures.writes
    (untouched c.args.self.now c.insert_below-below.new.self c.args.at c.by_distance-down.result.0 c.by_distance-down.result.1
    c.insert_below-below.result.0 c.args.leaf c.args.new_parent s b x o.0 o.1 g.0 o.2 g.1)
