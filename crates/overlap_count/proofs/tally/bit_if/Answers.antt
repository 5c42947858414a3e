-- One shifted has one bit, and 0 has none.
use Rattle.overlap_count.proofs.DigitLemmas.{flag_here, flag_other}
use Rattle.overlap_count.proofs.tally.bit_if.Goals as goal

pub returns-clause-here : goal.returns-clause-here
returns-clause-here c = flag_here c.args.does c.from.result c.args.place c.from.ensures c.requires

pub returns-clause-others : goal.returns-clause-others
returns-clause-others c k other = flag_other c.args.does c.from.result c.args.place k c.from.ensures c.requires other
