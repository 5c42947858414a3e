use Rattle.grid_cells.proofs.crossed_cells.+visit_crossed.Given as goal

abbrev pub decreases-visit_crossed : goal.decreases-visit_crossed
decreases-visit_crossed g l = l.steps.now
