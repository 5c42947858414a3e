-- One tally is written, which changes one count.
use Rattle.std.proofs.Common.{◌-◌, ap, sym, ◌∙◌, cond, arith, length, get_or}
use Rattle.overlap_count.proofs.DigitLemmas.{length-counts_of, tally_read, tally_written}
use Rattle.overlap_count.proofs.slot_counts.SlotCounts.lower_within.Goals as goal

pub index-tally-requires : goal.index-tally-requires
index-tally-requires c =
    omega (arith, c.self.inside.tallies.ok.0, length-counts_of c.self.inside.tallies.items, ap length c.self.view_is, c.requires.within)

pub index_mut-requires : goal.index_mut-requires
index_mut-requires c =
    omega (arith, c.self.inside.tallies.ok.0, length-counts_of c.self.inside.tallies.items, ap length c.self.view_is, c.requires.within)

pub lowered-requires-clause-above : goal.lowered-requires-clause-above
lowered-requires-clause-above c on =
    let ts = c.self.inside.tallies.items in
    let read = tally_read ts c.args.self.now c.args.place c.index-tally.result.now c.self.view_is c.requires.within c.index-tally.ensures in
    λ none. c.requires.above on (sym read ∙ none)

pub returns : goal.returns
returns c =
    let ts = c.self.inside.tallies.items in
    let was = get_or c.args.self.now c.args.place 0 in
    let read = tally_read ts c.args.self.now c.args.place c.index-tally.result.now c.self.view_is c.requires.within c.index-tally.ensures in
    tally_written ts c.args.self.now c.args.place (cond c.args.lowers (was - 1) was) c.index-tally.result.now c.lowered.result
    c.self.view_is c.requires.within c.index-tally.ensures (c.lowered.ensures.here ∙ ap (λ n. cond c.args.lowers (n - 1) n) read) c.lowered.ensures.others
