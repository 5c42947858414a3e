-- The powers of two of the exponent and the step cancel.
use Rattle.std.proofs.Common.{◌-◌, ◌^◌, min, sym, ap, ◌∙◌, arith}
use Rattle.float_bounds.proofs.Scaling.{multiplies_up, divides_up}
use Rattle.float_bounds.proofs.scale.away_from_zero.Goals as goal

pub returns-then-exponent-step : goal.returns-then-exponent-step
returns-then-exponent-step c =
    c.multiplied.ensures
    ∙ sym (ap (λ q. min q (2 ^ 32)) (multiplies_up c.args.significand (c.args.exponent - c.args.step) c.args.step c.args.exponent (omega arith)))

pub returns-else-exponent-step : goal.returns-else-exponent-step
returns-else-exponent-step c =
    c.divided_up.ensures
    ∙ sym (ap (λ q. min q (2 ^ 32)) (divides_up c.args.significand (c.args.step - c.args.exponent) c.args.step c.args.exponent (omega arith)))
