-- The low digit turns, and the high one where the low one was 1.
use Rattle.overlap_count.proofs.DigitLemmas.{raised_if, raised_other}
use Rattle.overlap_count.proofs.tally.Tally.raised.Goals as goal

pub returns-clause-here : goal.returns-clause-here
returns-clause-here c =
    raised_if c.args.rises c.args.self.low c.args.self.high c.bit_if-bit.result c.args.place c.bit_if-bit.ensures.here c.requires.room

pub returns-clause-others : goal.returns-clause-others
returns-clause-others c k lt other =
    raised_other c.args.self.low c.args.self.high c.bit_if-bit.result k (c.bit_if-bit.ensures.others k other)
