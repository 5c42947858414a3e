-- The digits before a point and behind it form one magnitude, and so do those before it alone.
use Rattle.std.proofs.Common.{◌≡◌, get_or, refl, rules}
use Rattle.number_front.proofs.FrontNumbers.{fraction_magnitude, whole_magnitude}
use Rattle.number_front.proofs.numbers_ahead.magnitude_ahead.Goals as goal

pub returns-in_ok-fraction-in-46 : goal.returns-in_ok-fraction-in-46
returns-in_ok-fraction-in-46 c =
    let point : get_or c.split_at.result.1.now 0 0 ≡ 46 = search rules in
    fraction_magnitude c.args.text.now c.split_at.result.1.now _ c.in_ok-whole.whole c.in_ok-whole.whole_len c.in_ok-fraction-in-46.fraction
    c.in_ok-fraction-in-46.len c.split_at.ensures.back c.in-46.len_at_least point refl c.in_ok-whole.ensures c.in_ok-fraction-in-46.ensures

pub returns-in_default : goal.returns-in_default
returns-in_default c = whole_magnitude c.args.text.now c.in_ok-whole.whole c.in_ok-whole.whole_len c.in_ok-whole.ensures
