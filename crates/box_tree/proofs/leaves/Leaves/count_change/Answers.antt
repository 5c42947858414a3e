-- A rebuild keeps the leaves.
use Rattle.std.proofs.Common.{◌∙◌, ap}
use Rattle.tree_nodes.specs.Tree.{leaves_in}
use Rattle.box_tree.proofs.FatLists.{permuted, slots_apart}
use Rattle.box_tree.proofs.LeafTies.{tied_rebuilt}
use Rattle.box_tree.proofs.leaves.Leaves.count_change.Goals as goal

pub invariant_of-self-else-self-gt0 : goal.invariant_of-self-else-self-gt0
invariant_of-self-else-self-gt0 c =
    let s = c.self.inside in
    tied_rebuilt s.nodes s.numbers.items c.self.invariant c.rebuild.new.self c.rebuild.ensures.tree c.rebuild.ensures.leaves

pub returns-else-self-gt0 : goal.returns-else-self-gt0
returns-else-self-gt0 c =
    let s = c.self.inside in
    let new = c.rebuild.new.self in
    permuted (leaves_in s.nodes) (leaves_in new) c.rebuild.ensures.leaves (slots_apart s.nodes (c.self.invariant).is_tree)
    (slots_apart new c.rebuild.ensures.tree)
    ∙ ap (λ l. l.fats) c.self.view_is
