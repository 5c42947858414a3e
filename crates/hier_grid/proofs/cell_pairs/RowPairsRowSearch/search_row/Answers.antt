-- The row is the only one.
use Rattle.std.proofs.Common.{refl}
use Rattle.std.proofs.lemmas.Result.{on_ok_weaker}
use Rattle.hier_grid.specs.WalkFinds.{finds_in_row}
use Rattle.hier_grid.proofs.cell_pairs.RowPairsRowSearch.search_row.Goals as goal

pub returns-clause-ok : goal.returns-clause-ok
returns-clause-ok c = on_ok_weaker c.row_pairs.result (λ found. (refl, (refl, (refl, finds_in_row _ _ _ _ _ found)))) c.row_pairs.ensures
