-- The least side is 4,096.
use Rattle.std.proofs.Common.{◌+◌, ◌*◌, arith}
use Rattle.std.proofs.lemmas.Int.{ints}
use Rattle.std.proofs.lemmas.Nat.{one_shl}
use Rattle.std.proofs.Math.Pow.{pow_mono}
use Rattle.grid_cells.specs.CellLaws.{wide}
use Rattle.grid_cells.proofs.cell.side_of.Goals as goal

pub returns-clause-low : goal.returns-clause-low
returns-clause-low c =
    let w = wide c.args.level in
    let m = pow_mono {i = 12 + 2 * c.args.level} {j = 32} (omega arith) in
    let e = one_shl (12 + 2 * c.args.level) 64 (omega arith) in
    omega (arith, ints)
