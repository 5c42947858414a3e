-- One more would set both digits.
use Rattle.overlap_count.proofs.DigitLemmas.{fills}
use Rattle.overlap_count.proofs.tally.Tally.fills.Goals as goal

pub returns : goal.returns
returns c =
    fills c.args.rises c.args.self.low c.args.self.high c.bit_if-bit.result c.args.place c.bit_if-bit.type_inv c.bit_if-bit.ensures.here
    c.bit_if-bit.ensures.others
