-- A coordinate of 32 bits lies at most 2^19 cells of the lowest level from 0.
use Rattle.std.proofs.Common.{arith}
use Rattle.std.proofs.lemmas.Int.{ints}
use Rattle.grid_cells.specs.CellLaws.{cell_low, cell_high}
use Rattle.grid_cells.proofs.cell.cell_at.Goals as goal

pub returns-clause-low : goal.returns-clause-low
returns-clause-low c = cell_low c.args.level c.args.x (omega (arith, ints, c.ranges.x.sfits))

pub returns-clause-high : goal.returns-clause-high
returns-clause-high c = cell_high c.args.level c.args.x (omega (arith, ints, c.ranges.x.sfits))
