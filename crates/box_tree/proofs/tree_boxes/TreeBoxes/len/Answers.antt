-- Each present slot has one leaf.
use Rattle.std.proofs.Common.{ap, ◌∙◌, length}
use Rattle.std.specs.FinMap.{len}
use Rattle.slot_lists.specs.SlotMap.{map_of}
use Rattle.tree_nodes.specs.Tree.{leaves_in}
use Rattle.box_tree.proofs.LeafCounts.{leaves_counted}
use Rattle.box_tree.proofs.tree_boxes.TreeBoxes.len.Goals as goal

pub returns : goal.returns
returns c =
    let s = c.self.inside in
    c.len.ensures.value ∙ ap (λ t. length (leaves_in t)) c.nodes.ensures
    ∙ leaves_counted s.leaves.tree s.bodies.items s.leaves.fats c.leaf_law.ensures c.self.invariant.1 c.self.invariant.0
    ∙ ap (λ k. len (map_of k.bodies)) c.self.view_is
