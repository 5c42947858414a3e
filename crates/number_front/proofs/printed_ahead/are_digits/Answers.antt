-- The tests tell digits.
use Rattle.std.proofs.Common.{rules}
use Rattle.number_front.proofs.PrintedWords.{tested_digits}
use Rattle.number_front.proofs.printed_ahead.are_digits.Goals as goal

pub returns : goal.returns
returns c tested = tested_digits c.args.values c.ranges.values.fits (search rules) (search rules)
