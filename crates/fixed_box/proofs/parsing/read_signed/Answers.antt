-- The nearest raw magnitude with its sign is the nearest raw number.
use Rattle.std.proofs.Common.{◌==◌, ◌∙◌}
use Rattle.std.specs.List.{slice_split}
use Rattle.fixed_box.specs.MagnitudeLaws.{signed_fix}
use Rattle.fixed_box.proofs.parsing.read_signed.Goals as goal

pub returns-in-Some : goal.returns-in-Some
returns-in-Some c = c.signed.ensures
    ∙ signed_fix c.args.negative (slice_split (λ b. b == 46) c.args.text.now) c.in-Some.number c.raw_magnitude.result c.in-Some.ensures.value
    c.raw_magnitude.ensures.value
