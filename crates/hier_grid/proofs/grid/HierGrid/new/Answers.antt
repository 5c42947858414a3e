-- Nothing is listed.
use Rattle.hier_grid.proofs.grid.HierGrid.new.Goals as goal

pub invariant_of-result : goal.invariant_of-result
invariant_of-result c = c.new-2.ensures c.in_ok-new.field-0
