use Rattle.slab.specs.Slab.{get}
use Rattle.tree_nodes.specs.Parts.{height_shown}
use Rattle.tree_nodes.proofs.linked_nodes.LinkedNodes.+insert_below.Given as goal

abbrev pub decreases-insert_below : goal.decreases-insert_below
decreases-insert_below l = height_shown (get l.self.now l.at)
