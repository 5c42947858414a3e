-- The lowest bit of the first word that isn't 0 is the least mark. Without such a word there is none.
use Rattle.std.proofs.Common.{◌≡◌, ◌<◌, length, get_or, arith}
use Rattle.std.proofs.lemmas.List.{get_or_read}
use Rattle.live_table.proofs.MarkLemmas.{none_found, least_found}
use Rattle.live_table.proofs.freed_slots.FreedSlots.least.Goals as goal

pub returns-then-word-eq-WORDS : goal.returns-then-word-eq-WORDS
returns-then-word-eq-WORDS c =
    none_found c.self.inside.words.items c.deref.result.now c.args.self.now c.self.inside.first c.next_marked-word.result c.deref.ensures.value
    c.self.view_is c.self.invariant c.next_marked-word.ensures.blank c.if-word-eq-WORDS.true

pub returns : goal.returns
returns c =
    let words = c.self.inside.words.items in
    let found = c.next_marked-word in
    let bit = c.lowest_bit in
    let in_words : found.result < length words = omega (arith, c.self.invariant.whole, c.if-word-eq-WORDS.false, found.ensures.bound, c.deref.ensures.len) in
    let bits : c.index.result.now ≡ get_or words found.result 0 = get_or_read words found.result c.index.result.now in_words c.index.ensures 0 in
    least_found words c.deref.result.now c.args.self.now c.self.inside.first found.result c.deref.ensures.value c.self.view_is c.self.invariant
    found.ensures.blank in_words c.index.result.now bit.result bits bit.ensures.within bit.ensures.set bit.ensures.lowest
