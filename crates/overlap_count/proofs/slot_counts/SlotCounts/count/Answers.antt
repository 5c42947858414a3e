-- The tally at the place has the count, and past the last tally it is 0.
use Rattle.std.proofs.Common.{◌≡◌, ◌/◌, ◌%◌, ap, sym, ◌∙◌, arith, length, get_or}
use Rattle.std.proofs.lemmas.List.{get_or_read, get_or_past}
use Rattle.overlap_count.specs.SlotCounts.{blank, digit}
use Rattle.overlap_count.proofs.DigitLemmas.{length-counts_of, get_or-counts_of}
use Rattle.overlap_count.proofs.slot_counts.SlotCounts.count.Goals as goal

pub returns-then-at-len-clause-count : goal.returns-then-at-len-clause-count
returns-then-at-len-clause-count c =
    let ts = c.self.inside.tallies.items in
    let place = c.args.place in
    let read : c.index.result.now ≡ get_or ts (place / 64) blank =
    get_or_read ts (place / 64) c.index.result.now (omega (arith, c.self.inside.tallies.ok.0, c.len.ensures, c.if-at-len.true)) c.index.ensures blank in
    c.count.ensures.count ∙ ap (λ t. digit t (place % 64)) read ∙ sym (get_or-counts_of ts place) ∙ ap (λ l. get_or l place 0) c.self.view_is

pub returns-then-at-len-clause-within : goal.returns-then-at-len-clause-within
returns-then-at-len-clause-within c other =
    let ts = c.self.inside.tallies.items in
    omega (arith, c.self.inside.tallies.ok.0, c.len.ensures, c.if-at-len.true, length-counts_of ts, ap length c.self.view_is)

pub returns-else-at-len-clause-count : goal.returns-else-at-len-clause-count
returns-else-at-len-clause-count c =
    let ts = c.self.inside.tallies.items in
    sym (get_or_past c.args.self.now c.args.place 0
    (omega (arith, c.self.inside.tallies.ok.0, c.len.ensures, c.if-at-len.false, length-counts_of ts, ap length c.self.view_is)))
