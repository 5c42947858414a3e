-- Pairs of digits, and one of both pairs.
use Rattle.number_front.proofs.PrintedWords.{number_is, number_below}
use Rattle.number_front.proofs.printed_ahead.number_of.Goals as goal

pub returns-clause-value : goal.returns-clause-value
returns-clause-value c a b p d small is = number_is a b p d c.args.values small is

pub returns-clause-small : goal.returns-clause-small
returns-clause-small c = number_below c.args.values c.requires.digits
