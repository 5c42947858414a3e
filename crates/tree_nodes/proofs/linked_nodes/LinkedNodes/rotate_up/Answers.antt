-- The higher child is opened, by height.
use Rattle.std.proofs.Common.{◌+◌, ap, ◌∙◌, sym, subst, refl, Some, arith}
use Rattle.tree_nodes.specs.Rotation.{lower, higher, rotated_up}
use Rattle.tree_nodes.specs.Stored.{StandsAt}
use Rattle.tree_nodes.specs.Tree.{one}
use Rattle.tree_nodes.proofs.Frames.{writes_fewer}
use Rattle.tree_nodes.proofs.Rotations.{children, rotation_up}
use Rattle.tree_nodes.proofs.linked_nodes.LinkedNodes.rotate_up.Goals as goal

pub by_height-halves-requires : goal.by_height-halves-requires
by_height-halves-requires c =
    let p = c.requires in
    let s = children c.args.self.now c.args.high c.in-Inner.left c.in-Inner.right c.in-Inner.height c.in-Inner.hull p.1 p.2.right_kept
    (c.view.ensures ∙ ap Some c.in-Inner.is) in
    (s.0, s.1, s.3, s.4)

pub rotate-requires : goal.rotate-requires
rotate-requires c =
    let p = c.requires in
    let t = rotation_up c.args.self.now c.args.at c.args.low c.args.high c.in-Inner.left c.in-Inner.right c.in-Inner.height c.in-Inner.hull p.0 p.1
    c.by_height-halves.result p.2 p.3 p.4 p.5 (c.view.ensures ∙ ap Some c.in-Inner.is) c.by_height-halves.ensures in
    (p.0, lower t.0 t.1, higher t.0 t.1, t.3)

pub returns-in-Inner-clause-there : goal.returns-in-Inner-clause-there
returns-in-Inner-clause-there c l h p ls hs bal =
    let t = rotation_up c.args.self.now c.args.at c.args.low c.args.high c.in-Inner.left c.in-Inner.right c.in-Inner.height c.in-Inner.hull l h
    c.by_height-halves.result p ls hs bal (c.view.ensures ∙ ap Some c.in-Inner.is) c.by_height-halves.ensures in
    subst (λ h. StandsAt c.rotate.new.self c.args.high (rotated_up c.args.at l h)) (sym t.2)
    (record { holds = c.rotate.ensures.there l (lower t.0 t.1) (higher t.0 t.1) t.3; is_at = refl })

pub returns-in-Leaf-clause-writes : goal.returns-in-Leaf-clause-writes
returns-in-Leaf-clause-writes c =
    writes_fewer c.args.self.now c.refit.new.self (λ k. one c.args.at k) (λ k. one c.args.at k + one c.args.high k) c.refit.ensures.writes
    (λ k none. omega arith)
