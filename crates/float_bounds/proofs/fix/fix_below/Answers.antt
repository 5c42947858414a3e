-- A float is rounded by its parts.
use Rattle.std.proofs.Common.{sym, ◌∙◌}
use Rattle.float_bounds.proofs.Bounding.{step_positive}
use Rattle.float_bounds.proofs.Rounded.{below_by_parts}
use Rattle.float_bounds.proofs.fix.fix_below.Goals as goal

pub returns : goal.returns
returns c =
    c.signed.ensures
    ∙ sym (below_by_parts c.args.format.now c.args.bits c.in_ok-number.number c.lower_magnitude.result (step_positive c.args.format.now)
    (sym c.in_ok-number.ensures) c.lower_magnitude.ensures.value)
