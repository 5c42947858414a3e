use Rattle.slab.specs.Slab.{get}
use Rattle.tree_nodes.specs.Parts.{height_shown}
use Rattle.tree_nodes.proofs.linked_nodes.LinkedNodes.+gather.Given as goal

abbrev pub decreases-gather : goal.decreases-gather
decreases-gather l = height_shown (get l.self.now l.at)
