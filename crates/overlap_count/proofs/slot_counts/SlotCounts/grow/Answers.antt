-- The list has the tallies, or gets them.
use Rattle.std.proofs.Common.{ap, arith, length}
use Rattle.overlap_count.proofs.DigitLemmas.{length-counts_of}
use Rattle.overlap_count.proofs.slot_counts.SlotCounts.grow.Goals as goal

pub lengthen-requires : goal.lengthen-requires
lengthen-requires c =
    omega (arith, c.self.inside.tallies.ok.0, c.len.ensures, c.if-len-tallies.true, length-counts_of c.self.inside.tallies.items, ap length c.self.view_is)

pub returns-else-len-tallies-clause-len : goal.returns-else-len-tallies-clause-len
returns-else-len-tallies-clause-len c =
    omega (arith, c.self.inside.tallies.ok.0, c.len.ensures, c.if-len-tallies.false, length-counts_of c.self.inside.tallies.items, ap length c.self.view_is)
