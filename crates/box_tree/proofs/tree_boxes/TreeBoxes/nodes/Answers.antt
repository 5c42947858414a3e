-- The leaves are tied to the fat boxes, and these to the boxes.
use Rattle.std.proofs.Common.{◌≡◌, subst, map}
use Rattle.std.specs.FinMap.{contains_key}
use Rattle.broad_index.specs.Held.{Holds}
use Rattle.slot_lists.specs.SlotMap.{map_of}
use Rattle.tree_nodes.specs.Tree.{leaves_in, IsTreeIn}
use Rattle.box_tree.specs.Boxes.{fat_entry}
use Rattle.box_tree.proofs.Fats.{fats_held, both_present}
use Rattle.box_tree.proofs.tree_boxes.TreeBoxes.nodes.Goals as goal

pub returns-clause-tree : goal.returns-clause-tree
returns-clause-tree c = subst (λ k. IsTreeIn k.tree) c.self.view_is c.leaf_law.ensures.is_tree

pub returns-clause-leaves : goal.returns-clause-leaves
returns-clause-leaves c =
    let s = c.self.inside in
    subst (λ k. Holds (map_of k.fats) (map fat_entry (leaves_in k.tree))) c.self.view_is (fats_held s.leaves.tree s.leaves.fats c.leaf_law.ensures)

pub returns-clause-present : goal.returns-clause-present
returns-clause-present c slot =
    let s = c.self.inside in
    subst (λ k. contains_key (map_of k.fats) slot ≡ contains_key (map_of k.bodies) slot) c.self.view_is
    (both_present s.leaves.fats s.bodies.items c.self.invariant.1 slot)
