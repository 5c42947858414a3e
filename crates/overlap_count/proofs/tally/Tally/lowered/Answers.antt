-- The low digit turns, and the high one where the low one was 0.
use Rattle.overlap_count.proofs.DigitLemmas.{lowered_if, lowered_other}
use Rattle.overlap_count.proofs.tally.Tally.lowered.Goals as goal

pub returns-clause-here : goal.returns-clause-here
returns-clause-here c =
    lowered_if c.args.lowers c.args.self.low c.args.self.high c.bit_if-bit.result c.args.place c.bit_if-bit.ensures.here c.requires.above

pub returns-clause-others : goal.returns-clause-others
returns-clause-others c k lt other =
    lowered_other c.args.self.low c.args.self.high c.bit_if-bit.result k (c.bit_if-bit.ensures.others k other)
