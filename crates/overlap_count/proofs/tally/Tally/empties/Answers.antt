-- Both digits are set.
use Rattle.overlap_count.proofs.DigitLemmas.{empties}
use Rattle.overlap_count.proofs.tally.Tally.empties.Goals as goal

pub returns : goal.returns
returns c =
    empties c.args.lowers c.args.self.low c.args.self.high c.bit_if-bit.result c.args.place c.bit_if-bit.type_inv c.bit_if-bit.ensures.here
    c.bit_if-bit.ensures.others
