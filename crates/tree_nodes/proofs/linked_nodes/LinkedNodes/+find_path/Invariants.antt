use Rattle.slab.specs.Slab.{get}
use Rattle.tree_nodes.specs.Parts.{height_shown}
use Rattle.tree_nodes.proofs.linked_nodes.LinkedNodes.+find_path.Given as goal

abbrev pub decreases-find_path : goal.decreases-find_path
decreases-find_path l = height_shown (get l.self.now l.at)
