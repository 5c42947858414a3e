use Rattle.tree_nodes.proofs.linked_nodes.LinkedNodes.+resize.Given as goal

abbrev pub decreases-resize : goal.decreases-resize
decreases-resize l = l.levels
