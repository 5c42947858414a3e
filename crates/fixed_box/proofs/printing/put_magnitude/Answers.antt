-- The units, the point and five digits are put one behind another. The buffer has room for the longest.
use Rattle.std.proofs.Common.{arith}
use Rattle.fixed_box.proofs.Shown.{length_units, puts_magnitude}
use Rattle.fixed_box.proofs.printing.put_magnitude.Goals as goal

pub put_decimal-point-requires : goal.put_decimal-point-requires
put_decimal-point-requires c = rw c.from.ensures (omega (arith, length_units c.args.magnitude c.requires.magnitude))

pub put_byte-fraction-requires : goal.put_byte-fraction-requires
put_byte-fraction-requires c = let point = rw c.from.ensures at c.put_decimal-point.ensures.ends in
    omega (arith, length_units c.args.magnitude c.requires.magnitude)

pub put_last_digits-requires : goal.put_last_digits-requires
put_last_digits-requires c = let point = rw c.from.ensures at c.put_decimal-point.ensures.ends in
    omega (arith, length_units c.args.magnitude c.requires.magnitude, c.put_byte-fraction.ensures.ends)

pub returns-clause-put : goal.returns-clause-put
returns-clause-put c = puts_magnitude _ _ _ _ _ _ _ _ _ (rw c.from.ensures at c.put_decimal-point.ensures) c.put_byte-fraction.ensures
    (rw c.from.ensures at c.put_last_digits.ensures)

pub returns-clause-bound : goal.returns-clause-bound
returns-clause-bound c = let point = rw c.from.ensures at c.put_decimal-point.ensures.ends in
    omega (arith, length_units c.args.magnitude c.requires.magnitude, c.put_byte-fraction.ensures.ends, c.put_last_digits.ensures.ends)
