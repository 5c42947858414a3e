-- One tally is written, which changes one count.
use Rattle.std.proofs.Common.{◌+◌, ap, ◌∙◌, cond, arith, length, get_or}
use Rattle.overlap_count.proofs.DigitLemmas.{length-counts_of, tally_read, tally_written}
use Rattle.overlap_count.proofs.slot_counts.SlotCounts.raise_within.Goals as goal

pub index-tally-requires : goal.index-tally-requires
index-tally-requires c =
    omega (arith, c.self.inside.tallies.ok.0, length-counts_of c.self.inside.tallies.items, ap length c.self.view_is, c.requires.within)

pub index_mut-requires : goal.index_mut-requires
index_mut-requires c =
    omega (arith, c.self.inside.tallies.ok.0, length-counts_of c.self.inside.tallies.items, ap length c.self.view_is, c.requires.within)

pub raised-requires-clause-room : goal.raised-requires-clause-room
raised-requires-clause-room c on =
    let ts = c.self.inside.tallies.items in
    let read = tally_read ts c.args.self.now c.args.place c.index-tally.result.now c.self.view_is c.requires.within c.index-tally.ensures in
    omega (arith, read, c.requires.room on)

pub returns : goal.returns
returns c =
    let ts = c.self.inside.tallies.items in
    let was = get_or c.args.self.now c.args.place 0 in
    let read = tally_read ts c.args.self.now c.args.place c.index-tally.result.now c.self.view_is c.requires.within c.index-tally.ensures in
    tally_written ts c.args.self.now c.args.place (cond c.args.rises (was + 1) was) c.index-tally.result.now c.raised.result
    c.self.view_is c.requires.within c.index-tally.ensures (c.raised.ensures.here ∙ ap (λ n. cond c.args.rises (n + 1) n) read) c.raised.ensures.others
