-- A tree has one inner node fewer than leaves, and no tree has no node.
use Rattle.std.proofs.Common.{◌≡◌, ◌+◌, ◌/◌, length, arith, ap, ◌∙◌}
use Rattle.tree_nodes.specs.Stored.{tree_of}
use Rattle.tree_nodes.specs.Tree.{leaves_in}
use Rattle.tree_nodes.proofs.Inserting.{halved, leaves_counted}
use Rattle.tree_nodes.proofs.nodes.Nodes.len.Goals as goal

pub overflow_add-result : goal.overflow_add-result
overflow_add-result c =
    let s = c.self.inside in
    let n = leaves_counted s.links s.root (tree_of s.links s.root) c.self.invariant.1 in
    record { fits = omega (arith, n.1, n.2, c.len.ensures) }

pub returns : goal.returns
returns c =
    let s = c.self.inside in
    let n = leaves_counted s.links s.root (tree_of s.links s.root) c.self.invariant.1 in
    let value : (c.len.result + 1) / 2 ≡ length (leaves_in c.args.self.now) =
    halved c.len.result (length (leaves_in (tree_of s.links s.root))) (omega (arith, n.0, c.len.ensures)) (omega (arith, n.1, c.len.ensures))
    ∙ ap (λ o. length (leaves_in o)) c.self.view_is in
    let least = n.2 in
    record { value = value; most = omega (arith, least, value, ap (λ o. length (leaves_in o)) c.self.view_is) }
