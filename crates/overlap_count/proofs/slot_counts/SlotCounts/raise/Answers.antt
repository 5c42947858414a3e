-- The list has room for the place, and one count more there.
use Rattle.std.proofs.Common.{◌+◌, ◌<◌, ap, ◌∙◌, cond, eqb, arith, length, get_or}
use Rattle.overlap_count.proofs.TableLemmas.{set_changes}
use Rattle.overlap_count.proofs.slot_counts.SlotCounts.raise.Goals as goal

pub raise_within-requires-clause-within : goal.raise_within-requires-clause-within
raise_within-requires-clause-within c = omega (arith, c.in_ok-grow.ensures.len, c.requires.within)

pub raise_within-requires-clause-room : goal.raise_within-requires-clause-room
raise_within-requires-clause-room c on = omega (arith, c.in_ok-grow.ensures.ok c.args.place, c.requires.room)

pub returns-clause-ok : goal.returns-clause-ok
returns-clause-ok c k =
    let place = c.args.place in
    let old = c.args.self.now in
    let grown = c.grow.new.self in
    let lt : place < length grown = omega (arith, c.in_ok-grow.ensures.len, c.requires.within) in
    ap (λ l. get_or l k 0) c.raise_within.ensures ∙ set_changes grown place (get_or grown place 0 + 1) lt k
    ∙ ap (λ n. cond (eqb k place) (n + 1) (get_or grown k 0)) (c.in_ok-grow.ensures.ok place)
    ∙ ap (cond (eqb k place) (get_or old place 0 + 1)) (c.in_ok-grow.ensures.ok k)
