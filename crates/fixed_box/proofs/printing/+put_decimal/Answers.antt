-- The digits before the last one are put first, and that digit behind them.
use Rattle.std.proofs.Common.{arith}
use Rattle.std.proofs.lemmas.Fmt.{decimal_digit}
use Rattle.fixed_box.proofs.Shown.{length_decimal_step, puts_decimal}
use Rattle.fixed_box.proofs.printing.+put_decimal.Goals as goal

pub put_byte-requires : goal.put_byte-requires
put_byte-requires t c = let one = decimal_digit c.args.number c.if-number-lt10.true in let h = rw one at c.requires in omega arith

pub returns-then-number-lt10 : goal.returns-then-number-lt10
returns-then-number-lt10 t c = rw (decimal_digit c.args.number c.if-number-lt10.true) c.put_byte.ensures

pub put_decimal-last-requires : goal.put_decimal-last-requires
put_decimal-last-requires t c = (omega arith, omega (arith, length_decimal_step c.args.number c.if-number-lt10.false (omega arith)))

pub put_byte-requires-2 : goal.put_byte-requires-2
put_byte-requires-2 t c = omega (arith, length_decimal_step c.args.number c.if-number-lt10.false (omega arith), c.put_decimal-last.ensures.ends)

pub returns : goal.returns
returns t c = puts_decimal _ _ _ _ _ _ c.args.number c.if-number-lt10.false (omega arith) c.put_decimal-last.ensures c.put_byte-2.ensures
