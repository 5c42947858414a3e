-- One digit more.
use Rattle.std.proofs.Common.{◌≡◌, ◌<◌, true, length, get_or, sym, ◌∙◌, arith}
use Rattle.std.specs.Char.{is_ascii_digit}
use Rattle.number_front.proofs.FrontNumbers.{run_longer, number_longer, power_longer}
use Rattle.number_front.proofs.numbers_ahead.many_digits.Goals as goal

pub digits-preserved : goal.digits-preserved
digits-preserved c =
    let inside : c.digits.len < length c.args.text.now = omega (arith, c.min-most.ensures) in
    let digit : is_ascii_digit (get_or c.args.text.now c.digits.len 0) ≡ true = sym c.is_ascii_digit.ensures.value ∙ c.if-is_ascii_digit.true in
    record {
      value = rw c.from.ensures (number_longer c.digits.number c.digits.len c.args.text.now inside digit c.digits.invariant.value);
      digits = run_longer c.digits.len c.args.text.now inside digit c.digits.invariant.digits;
      within = omega arith;
      small = rw c.from.ensures (power_longer c.digits.number (get_or c.args.text.now c.digits.len 0) c.digits.len digit c.digits.invariant.small);
    }
