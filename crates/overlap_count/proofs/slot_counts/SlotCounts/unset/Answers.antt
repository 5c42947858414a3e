-- One tally is written, which clears one count, and past the last one the count is 0 already.
use Rattle.std.proofs.Common.{◌<◌, ap, arith, length}
use Rattle.std.proofs.lemmas.List.{get_or_past}
use Rattle.overlap_count.proofs.DigitLemmas.{length-counts_of, tally_written}
use Rattle.overlap_count.proofs.SpreadLemmas.{unchanged}
use Rattle.overlap_count.proofs.slot_counts.SlotCounts.unset.Goals as goal

pub returns-then-at-len : goal.returns-then-at-len
returns-then-at-len c =
    let ts = c.self.inside.tallies.items in
    let lt : c.args.place < length c.args.self.now =
    omega (arith, c.self.inside.tallies.ok.0, c.len.ensures, c.if-at-len.true, length-counts_of ts, ap length c.self.view_is) in
    tally_written ts c.args.self.now c.args.place 0 c.index-tally.result.now c.without.result c.self.view_is lt c.index-tally.ensures
    c.without.ensures.here c.without.ensures.others

pub returns-else-at-len : goal.returns-else-at-len
returns-else-at-len c =
    unchanged c.args.self.now c.args.place
    (get_or_past c.args.self.now c.args.place 0
    (omega (arith, c.self.inside.tallies.ok.0, c.len.ensures, c.if-at-len.false, length-counts_of c.self.inside.tallies.items, ap length c.self.view_is)))
