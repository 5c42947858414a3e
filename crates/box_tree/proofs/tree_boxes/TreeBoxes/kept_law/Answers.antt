-- The fat boxes of the leaves enclose the boxes.
use Rattle.std.proofs.Common.{subst}
use Rattle.broad_index.specs.Held.{Holds}
use Rattle.slot_lists.specs.SlotMap.{map_of}
use Rattle.tree_search.specs.Exact.{exact_in, IsInsideIn}
use Rattle.box_tree.proofs.Searching.{all_inside, exact_held}
use Rattle.box_tree.proofs.tree_boxes.TreeBoxes.kept_law.Goals as goal

pub returns-clause-inside : goal.returns-clause-inside
returns-clause-inside c =
    let s = c.self.inside in
    subst (λ k. IsInsideIn k.bodies k.tree) c.self.view_is (all_inside s.leaves.tree s.bodies.items s.leaves.fats
    (record { bodies_len = c.self.invariant.0; leafed = c.leaf_law.ensures; fat = c.self.invariant.1 }))

pub returns-clause-held : goal.returns-clause-held
returns-clause-held c =
    let s = c.self.inside in
    subst (λ k. Holds (map_of k.bodies) (exact_in k.bodies k.tree)) c.self.view_is (exact_held s.leaves.tree s.bodies.items s.leaves.fats
    (record { bodies_len = c.self.invariant.0; leafed = c.leaf_law.ensures; fat = c.self.invariant.1 }))
