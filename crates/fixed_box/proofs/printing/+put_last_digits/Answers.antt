-- The digits before the last one are put first, and that digit behind them.
use Rattle.std.proofs.Common.{◌-◌, ◌/◌, arith}
use Rattle.fixed_box.proofs.Shown.{length-last_digits, puts_last_digits}
use Rattle.fixed_box.proofs.printing.+put_last_digits.Goals as goal

pub put_byte-requires : goal.put_byte-requires
put_byte-requires t c = omega (arith, length-last_digits (c.args.count - 1) (c.args.number / 10), c.put_last_digits-last.ensures.ends)

pub returns : goal.returns
returns t c = puts_last_digits _ _ _ _ _ _ c.args.count c.args.number c.if-count-eq0.false c.put_last_digits-last.ensures c.put_byte.ensures
