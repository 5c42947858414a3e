-- One bit is cleared, and one slot less is counted.
use Rattle.std.proofs.Common.{◌≡◌, ◌≢◌, ◌-◌, ◌*◌, ◌/◌, ◌%◌, ◌^◌, ◌<◌, ℕ, ap, ◌∙◌, arith, length, get_or, bit_and, w64}
use Rattle.std.specs.Int.{bit_at}
use Rattle.std.proofs.lemmas.List.{get_or_read}
use Rattle.std.proofs.lemmas.Nat.Bits.{bit_at_clear_same, bit_at_clear_other}
use Rattle.overlap_count.proofs.SetLemmas.{length-bits_of, some_slot, word_written, set_written}
use Rattle.overlap_count.proofs.TableLemmas.{within}
use Rattle.overlap_count.proofs.slot_set.SlotSet.remove.Goals as goal

pub index_mut-requires : goal.index_mut-requires
index_mut-requires c =
    omega (
      arith,
      c.self.inside.words.ok.0,
      length-bits_of c.self.inside.words.items,
      ap length c.self.view_is,
      within c.args.self.now c.args.slot (λ none. absurd (omega (arith, none, c.requires))),
    )

pub overflow_sub-self : goal.overflow_sub-self
overflow_sub-self c =
    omega (arith, some_slot c.self.inside.words.items c.self.inside.number c.args.slot c.args.self.now c.self.invariant c.self.view_is c.requires)

clear_others : (word was place : ℕ) → place < 64 → was ≡ word → (k : ℕ) → k < 64 → k ≢ place
    → bit_at (bit_and was (18446744073709551615 - 1 * 2 ^ place % 18446744073709551616)) k ≡ bit_at word k
clear_others word was place lt same k small other = bit_at_clear_other w64 was place lt k small other ∙ ap (λ w. bit_at w k) same

pub invariant_of-self : goal.invariant_of-self
invariant_of-self c =
    let words = c.self.inside.words.items in
    let slot = c.args.slot in
    let lt : slot < length c.args.self.now = within c.args.self.now slot (λ none. absurd (omega (arith, none, c.requires))) in
    let small : slot % 64 < 64 = omega arith in
    let inside : slot / 64 < length words = omega (arith, length-bits_of words, ap length c.self.view_is, lt) in
    let read = get_or_read words (slot / 64) c.index_mut.result.now inside c.index_mut.ensures.value 0 in
    set_written words c.args.self.now c.self.inside.number (c.self.inside.number - 1) slot 1 0 _ c.self.invariant c.self.view_is lt c.requires
    (bit_at_clear_same w64 c.index_mut.result.now (slot % 64) small)
    (λ k low other. clear_others (get_or words (slot / 64) 0) c.index_mut.result.now (slot % 64) small read k low other)
    (omega (arith, some_slot words c.self.inside.number slot c.args.self.now c.self.invariant c.self.view_is c.requires))

pub returns : goal.returns
returns c =
    let words = c.self.inside.words.items in
    let slot = c.args.slot in
    let lt : slot < length c.args.self.now = within c.args.self.now slot (λ none. absurd (omega (arith, none, c.requires))) in
    let small : slot % 64 < 64 = omega arith in
    let inside : slot / 64 < length words = omega (arith, length-bits_of words, ap length c.self.view_is, lt) in
    let read = get_or_read words (slot / 64) c.index_mut.result.now inside c.index_mut.ensures.value 0 in
    word_written words c.args.self.now slot 0 _ c.self.view_is lt
    (bit_at_clear_same w64 c.index_mut.result.now (slot % 64) small)
    (λ k low other. clear_others (get_or words (slot / 64) 0) c.index_mut.result.now (slot % 64) small read k low other)
