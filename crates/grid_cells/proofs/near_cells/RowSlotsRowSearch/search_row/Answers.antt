-- The row is the only one.
use Rattle.std.proofs.Common.{refl}
use Rattle.std.proofs.lemmas.Result.{on_ok_weaker}
use Rattle.grid_cells.specs.WalkLaws.{slots_in_row}
use Rattle.grid_cells.proofs.near_cells.RowSlotsRowSearch.search_row.Goals as goal

pub returns-clause-ok : goal.returns-clause-ok
returns-clause-ok c = on_ok_weaker c.visit_row.result (λ visited. (refl, (refl, slots_in_row _ _ _ _ visited))) c.visit_row.ensures.ok
