-- The tests tell four digits.
use Rattle.number_front.proofs.HexadecimalWords.{four_are}
use Rattle.number_front.proofs.hexadecimal_ahead.four_hexadecimal.Goals as goal

pub returns-clause-digits : goal.returns-clause-digits
returns-clause-digits c p q r s bytes is = four_are p q r s c.args.word bytes is c.if-values-ne0.false c.if-values-letters-ne0.false
