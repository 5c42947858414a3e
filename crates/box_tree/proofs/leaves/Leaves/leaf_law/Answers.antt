-- Leaves that are tied to slots are the slots with fat boxes.
use Rattle.std.proofs.Common.{subst}
use Rattle.box_tree.specs.Ties.{Leafed}
use Rattle.box_tree.proofs.LeafTies.{leafed}
use Rattle.box_tree.proofs.leaves.Leaves.leaf_law.Goals as goal

pub returns : goal.returns
returns c = let s = c.self.inside in subst (λ l. Leafed l.tree l.fats) c.self.view_is (leafed s.nodes s.numbers.items c.self.invariant)
