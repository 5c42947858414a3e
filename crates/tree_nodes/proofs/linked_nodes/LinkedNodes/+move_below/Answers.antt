-- The child that is next is moved, the other stays, and the node is refitted.
use Rattle.std.proofs.Common.{◌≡◌, ◌<◌, ◌-◌, take, drop, get_or, length, ap, ◌∙◌, sym, subst, refl, Some, arith, IsSome, ⊎_elim}
use Rattle.tree_nodes.specs.Moved.{with_fat, refitted}
use Rattle.tree_nodes.specs.Stored.{StandsAt}
use Rattle.tree_nodes.specs.Tree.{bounds, count_of, one}
use Rattle.tree_nodes.proofs.BoxEquality.{same_box}
use Rattle.tree_nodes.proofs.Frames.{one_apart, writes_none, writes_both}
use Rattle.tree_nodes.proofs.LeafMoves.{node_stays, same_bounds, path_writes, start_free, down, children_moved}
use Rattle.tree_nodes.proofs.Removing.{parted}
use Rattle.tree_nodes.proofs.linked_nodes.LinkedNodes.+move_below.Goals as goal

pub move_below-requires : goal.move_below-requires
move_below-requires t c =
    let q = c.requires in
    let e = parted c.args.path.now c.in-len1-up.len_at_least in
    let d = down c.args.self.now c.args.at c.in-Inner.left c.in-Inner.right
    (get_or c.args.path.now 0 0) c.in-Inner.height c.in-Inner.hull q.0 c.args.path.now
    (take (length c.args.path.now - 1) (drop 1 c.args.path.now)) q.1 q.2 (c.view.ensures ∙ ap Some c.in-Inner.is) e in (
      subst (λ m. length (take (length c.args.path.now - 1) (drop 1 c.args.path.now)) < m) c.decreases (let l = ap length e in omega arith),
      ⊎_elim (λ on. (q.0, d.f, on)) (λ on. (q.0, d.g, on)) d.on,
    )

pub refit-requires : goal.refit-requires
refit-requires t c =
    let q = c.requires in
    let e = parted c.args.path.now c.in-len1-up.len_at_least in
    let d = down c.args.self.now c.args.at c.in-Inner.left c.in-Inner.right
    (get_or c.args.path.now 0 0) c.in-Inner.height c.in-Inner.hull q.0 c.args.path.now
    (take (length c.args.path.now - 1) (drop 1 c.args.path.now)) q.1 q.2 (c.view.ensures ∙ ap Some c.in-Inner.is) e in (
      with_fat q.0 c.args.fat.now d.f,
      with_fat q.0 c.args.fat.now d.g,
      children_moved c.args.self.now c.move_below.new.self c.args.at c.in-Inner.left c.in-Inner.right
          (get_or c.args.path.now 0 0) c.in-Inner.height c.in-Inner.hull q.0
          (take (length c.args.path.now - 1) (drop 1 c.args.path.now)) q.1 c.args.fat.now c.move_below.ensures.there c.move_below.ensures.writes
          (subst IsSome (sym c.view.ensures) refl) d,
    )

pub returns-then-not-move_below-clause-there : goal.returns-then-not-move_below-clause-there
returns-then-not-move_below-clause-there t c node u w =
    let e = parted c.args.path.now c.in-len1-up.len_at_least in
    let d = down c.args.self.now c.args.at c.in-Inner.left c.in-Inner.right
    (get_or c.args.path.now 0 0) c.in-Inner.height c.in-Inner.hull node c.args.path.now (take (length c.args.path.now - 1) (drop 1 c.args.path.now))
    u w (c.view.ensures ∙ ap Some c.in-Inner.is) e in
    let p = children_moved c.args.self.now c.move_below.new.self c.args.at c.in-Inner.left c.in-Inner.right
    (get_or c.args.path.now 0 0) c.in-Inner.height c.in-Inner.hull node (take (length c.args.path.now - 1) (drop 1 c.args.path.now))
    u c.args.fat.now c.move_below.ensures.there c.move_below.ensures.writes
    (subst IsSome (sym c.view.ensures) refl) d in
    node_stays c.args.self.now c.move_below.new.self c.args.at c.in-Inner.left c.in-Inner.right
    (get_or c.args.path.now 0 0) c.in-Inner.height c.in-Inner.hull node (take (length c.args.path.now - 1) (drop 1 c.args.path.now)) u c.args.fat.now
    (λ m x y. c.move_below.ensures.bounds m x y c.if-not-move_below.true) c.move_below.ensures.writes
    (c.view.ensures ∙ ap Some c.in-Inner.is) w.balanced d p

pub returns-then-not-move_below-clause-bounds : goal.returns-then-not-move_below-clause-bounds
returns-then-not-move_below-clause-bounds t c node u w _ =
    let e = parted c.args.path.now c.in-len1-up.len_at_least in
    let d = down c.args.self.now c.args.at c.in-Inner.left c.in-Inner.right
    (get_or c.args.path.now 0 0) c.in-Inner.height c.in-Inner.hull node c.args.path.now (take (length c.args.path.now - 1) (drop 1 c.args.path.now))
    u w (c.view.ensures ∙ ap Some c.in-Inner.is) e in
    same_bounds c.args.self.now c.args.at c.in-Inner.left c.in-Inner.right
    (get_or c.args.path.now 0 0) c.in-Inner.height c.in-Inner.hull node (take (length c.args.path.now - 1) (drop 1 c.args.path.now)) u c.args.fat.now
    (λ m x y. c.move_below.ensures.bounds m x y c.if-not-move_below.true) w.balanced d

pub bounds_at-requires : goal.bounds_at-requires
bounds_at-requires t c =
    let q = c.requires in
    let e = parted c.args.path.now c.in-len1-up.len_at_least in
    let d = down c.args.self.now c.args.at c.in-Inner.left c.in-Inner.right
    (get_or c.args.path.now 0 0) c.in-Inner.height c.in-Inner.hull q.0 c.args.path.now (take (length c.args.path.now - 1) (drop 1 c.args.path.now))
    q.1 q.2 (c.view.ensures ∙ ap Some c.in-Inner.is) e in
    let p = children_moved c.args.self.now c.move_below.new.self c.args.at c.in-Inner.left c.in-Inner.right
    (get_or c.args.path.now 0 0) c.in-Inner.height c.in-Inner.hull q.0 (take (length c.args.path.now - 1) (drop 1 c.args.path.now))
    q.1 c.args.fat.now c.move_below.ensures.there c.move_below.ensures.writes
    (subst IsSome (sym c.view.ensures) refl) d in
    let f = with_fat q.0 c.args.fat.now d.f in
    let g = with_fat q.0 c.args.fat.now d.g in
    (refitted c.args.at f g, c.refit.ensures.there f g p, refl)

pub returns-else-not-move_below-clause-there : goal.returns-else-not-move_below-clause-there
returns-else-not-move_below-clause-there t c node u w =
    let e = parted c.args.path.now c.in-len1-up.len_at_least in
    let d = down c.args.self.now c.args.at c.in-Inner.left c.in-Inner.right
    (get_or c.args.path.now 0 0) c.in-Inner.height c.in-Inner.hull node c.args.path.now (take (length c.args.path.now - 1) (drop 1 c.args.path.now))
    u w (c.view.ensures ∙ ap Some c.in-Inner.is) e in
    let p = children_moved c.args.self.now c.move_below.new.self c.args.at c.in-Inner.left c.in-Inner.right
    (get_or c.args.path.now 0 0) c.in-Inner.height c.in-Inner.hull node (take (length c.args.path.now - 1) (drop 1 c.args.path.now))
    u c.args.fat.now c.move_below.ensures.there c.move_below.ensures.writes
    (subst IsSome (sym c.view.ensures) refl) d in
    subst (λ x. StandsAt c.refit.new.self c.args.at (with_fat node c.args.fat.now x)) (sym d.is)
    (record { holds = c.refit.ensures.there (with_fat node c.args.fat.now d.f) (with_fat node c.args.fat.now d.g) p; is_at = refl })

pub returns-else-not-move_below-clause-bounds : goal.returns-else-not-move_below-clause-bounds
returns-else-not-move_below-clause-bounds t c node u w still =
    let e = parted c.args.path.now c.in-len1-up.len_at_least in
    let d = down c.args.self.now c.args.at c.in-Inner.left c.in-Inner.right
    (get_or c.args.path.now 0 0) c.in-Inner.height c.in-Inner.hull node c.args.path.now (take (length c.args.path.now - 1) (drop 1 c.args.path.now))
    u w (c.view.ensures ∙ ap Some c.in-Inner.is) e in
    let p = children_moved c.args.self.now c.move_below.new.self c.args.at c.in-Inner.left c.in-Inner.right
    (get_or c.args.path.now 0 0) c.in-Inner.height c.in-Inner.hull node (take (length c.args.path.now - 1) (drop 1 c.args.path.now))
    u c.args.fat.now c.move_below.ensures.there c.move_below.ensures.writes
    (subst IsSome (sym c.view.ensures) refl) d in
    let f = with_fat node c.args.fat.now d.f in
    let g = with_fat node c.args.fat.now d.g in
    let now = c.bounds_at.ensures (refitted c.args.at f g) (c.refit.ensures.there f g p) refl in
    let same : bounds (refitted c.args.at f g) ≡ c.in-Inner.hull = sym now ∙ same_box c.bounds_at.result c.in-Inner.hull (sym c.ne.ensures ∙ still) in
    subst (λ x. bounds (with_fat node c.args.fat.now x) ≡ bounds x) (sym d.is) same

pub returns-in-Leaf-clause-writes : goal.returns-in-Leaf-clause-writes
returns-in-Leaf-clause-writes t c node u w = record {
  others = λ x none. c.write_bounds.ensures.written.others x
      (λ same. one_apart c.args.at x (start_free c.args.self.now c.args.at node c.args.path.now u w x none) (sym same));
  kept = c.write_bounds.ensures.keys;
}

pub returns-in_default-clause-writes : goal.returns-in_default-clause-writes
returns-in_default-clause-writes t c node u w = writes_none c.args.self.now (λ x. count_of u x)

pub returns-then-not-move_below-clause-writes : goal.returns-then-not-move_below-clause-writes
returns-then-not-move_below-clause-writes t c node u w =
    let e = parted c.args.path.now c.in-len1-up.len_at_least in
    let d = down c.args.self.now c.args.at c.in-Inner.left c.in-Inner.right
    (get_or c.args.path.now 0 0) c.in-Inner.height c.in-Inner.hull node c.args.path.now (take (length c.args.path.now - 1) (drop 1 c.args.path.now))
    u w (c.view.ensures ∙ ap Some c.in-Inner.is) e in
    path_writes c.args.self.now c.move_below.new.self c.args.at c.in-Inner.left c.in-Inner.right
    (get_or c.args.path.now 0 0) c.in-Inner.height c.in-Inner.hull node
    (take (length c.args.path.now - 1) (drop 1 c.args.path.now)) u c.move_below.ensures.writes d

pub returns-else-not-move_below-clause-writes : goal.returns-else-not-move_below-clause-writes
returns-else-not-move_below-clause-writes t c node u w =
    let e = parted c.args.path.now c.in-len1-up.len_at_least in
    let d = down c.args.self.now c.args.at c.in-Inner.left c.in-Inner.right
    (get_or c.args.path.now 0 0) c.in-Inner.height c.in-Inner.hull node c.args.path.now (take (length c.args.path.now - 1) (drop 1 c.args.path.now))
    u w (c.view.ensures ∙ ap Some c.in-Inner.is) e in
    let below = path_writes c.args.self.now c.move_below.new.self c.args.at c.in-Inner.left c.in-Inner.right
    (get_or c.args.path.now 0 0) c.in-Inner.height c.in-Inner.hull node
    (take (length c.args.path.now - 1) (drop 1 c.args.path.now)) u c.move_below.ensures.writes d in
    writes_both c.args.self.now c.move_below.new.self c.refit.new.self (λ x. count_of u x) (λ x. one c.args.at x) (λ x. count_of u x) below c.refit.ensures.writes
    (λ x none. (none, start_free c.args.self.now c.args.at node c.args.path.now u w x none))
