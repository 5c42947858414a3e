-- One bit of one word is cleared, which is the mark of one slot.
use Rattle.std.proofs.Common.{◌≡◌, ◌/◌, ◌%◌, ◌<◌, false, eqb, length, get_or, ap, ◌∙◌, arith, slice_set, w64}
use Rattle.std.specs.Int.{bit_at}
use Rattle.std.proofs.lemmas.List.{get_or_read}
use Rattle.std.proofs.lemmas.Nat.Bits.{bit_at_clear_same, bit_at_clear_other}
use Rattle.live_table.proofs.MarkLemmas.{marks_of-set}
use Rattle.live_table.proofs.freed_slots.FreedSlots.unmark.Goals as goal

pub returns : goal.returns
returns c =
    let words = c.self.inside.words.items in
    let slot = c.args.slot in
    let in_words : slot / 64 < length words = omega (arith, c.self.invariant.whole, c.requires) in
    let old : c.index_mut.result.now ≡ get_or words (slot / 64) 0 = get_or_read words (slot / 64) c.index_mut.result.now in_words c.index_mut.ensures.value 0 in
    let in_word : slot % 64 < 64 = omega arith in
    marks_of-set words slot _ false (omega (arith, c.self.invariant.whole, c.requires))
    (ap (λ b. eqb b 1) (bit_at_clear_same w64 c.index_mut.result.now (slot % 64) in_word))
    (λ i lt other. bit_at_clear_other w64 c.index_mut.result.now (slot % 64) in_word i lt other ∙ ap (λ w. bit_at w i) old)
    ∙ ap (λ ms. slice_set ms slot false) c.self.view_is
