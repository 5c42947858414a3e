-- The product fits, since it is below 2^32 times 2^31.
use Rattle.std.proofs.Common.{◌≤◌, unsigned_abs, w64, arith}
use Rattle.std.proofs.lemmas.Int.{ints, to_z-of_z, fits_signed_mul}
use Rattle.prepared_query.proofs.slope.product.Goals as goal

pub returns : goal.returns
returns c =
    let gap : unsigned_abs c.args.gap ≤ 4294967295 = omega (arith, ints, c.requires.gap.low, c.requires.gap.high) in
    let way : unsigned_abs c.args.way ≤ 2147483648 = omega (arith, ints, c.requires.way.low, c.requires.way.high) in
    let in_gap = c.ranges.gap in
    let in_way = c.ranges.way in
    let fits = fits_signed_mul w64 c.args.gap c.args.way 4294967295 2147483648 gap way (omega arith) in
    simp to_z-of_z
