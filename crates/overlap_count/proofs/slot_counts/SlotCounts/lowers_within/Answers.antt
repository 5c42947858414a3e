-- The tally at the place has the count, and past the last tally the list has no place.
use Rattle.std.proofs.Common.{◌<◌, ◌≤◌, ◌&&◌, ap, ◌∙◌, refl, arith, length, eqb, not, lt-ltb, le-ltb}
use Rattle.overlap_count.proofs.DigitLemmas.{length-counts_of, tally_read}
use Rattle.overlap_count.proofs.slot_counts.SlotCounts.lowers_within.Goals as goal

pub returns-then-at-len : goal.returns-then-at-len
returns-then-at-len c =
    let ts = c.self.inside.tallies.items in
    let now = c.args.self.now in
    let place = c.args.place in
    let lt : place < length now =
    omega (arith, c.self.inside.tallies.ok.0, c.len.ensures, c.if-at-len.true, length-counts_of ts, ap length c.self.view_is) in
    let read = tally_read ts now place c.index.result.now c.self.view_is lt c.index.ensures in
    rw (lt-ltb place (length now) lt) (ap not (c.empties.ensures ∙ ap (λ n. c.args.lowers && eqb n 3) read))

pub returns-else-at-len : goal.returns-else-at-len
returns-else-at-len c =
    let ts = c.self.inside.tallies.items in
    let now = c.args.self.now in
    let past : length now ≤ c.args.place =
    omega (arith, c.self.inside.tallies.ok.0, c.len.ensures, c.if-at-len.false, length-counts_of ts, ap length c.self.view_is) in
    rw (le-ltb c.args.place (length now) past) refl
