-- The digits so far, and what is left of the text, make the fraction that all of its digits make.
use Rattle.std.proofs.Common.{◌≡◌, ◌-◌, ◌≤◌, true, get_or, sym, ◌∙◌, arith}
use Rattle.std.proofs.lemmas.Grind.{common_steps}
use Rattle.std.specs.Char.{is_ascii_digit}
use Rattle.fixed_box.specs.DigitLaws.{digit_small}
use Rattle.fixed_box.proofs.DigitRuns.{fraction_step_at}
use Rattle.fixed_box.proofs.parsing.read_fraction.Goals as goal

pub fraction-preserved : goal.fraction-preserved
fraction-preserved c =
    let digit : is_ascii_digit (get_or c.fraction.rest.now 0 0) ≡ true = sym c.is_ascii_digit.ensures.value ∙ c.if-not-is_ascii_digit.false in
    let small : get_or c.fraction.rest.now 0 0 - 48 ≤ 9 = digit_small _ digit in
    record {
      read = rw c.from.ensures (sym (fraction_step_at _ _ _ _ c.fraction.rest.now c.in-len1-up.len_at_least digit) ∙ c.fraction.invariant.read);
      scale = grind (arith, common_steps);
      below = omega arith;
      few = omega arith;
    }
