-- One bit is set, and one slot more is counted.
use Rattle.std.proofs.Common.{◌≡◌, ◌≢◌, ◌+◌, ◌*◌, ◌/◌, ◌%◌, ◌^◌, ◌<◌, ℕ, ap, ◌∙◌, cond, eqb, arith, length, get_or, bit_or, w64}
use Rattle.std.specs.Int.{bit_at}
use Rattle.std.proofs.lemmas.List.{get_or_read}
use Rattle.std.proofs.lemmas.Nat.Bits.{bit_at_set_same, bit_at_set_other}
use Rattle.overlap_count.proofs.SetLemmas.{length-bits_of, few_slots, word_written, set_written}
use Rattle.overlap_count.proofs.TableLemmas.{set_changes}
use Rattle.overlap_count.proofs.slot_set.SlotSet.insert.Goals as goal

pub index_mut-requires : goal.index_mut-requires
index_mut-requires c =
    omega (
      arith,
      c.self.inside.words.ok.0,
      length-bits_of c.self.inside.words.items,
      ap length c.self.view_is,
      c.in_ok-grow.ensures.len,
      c.requires.small,
    )

pub overflow_add-self : goal.overflow_add-self
overflow_add-self c = omega (arith, few_slots c.self.inside.words.items c.self.inside.number c.self.invariant)

set_others : (word was place : ℕ) → place < 64 → was ≡ word → (k : ℕ) → k ≢ place
    → bit_at (bit_or was (1 * 2 ^ place % 18446744073709551616)) k ≡ bit_at word k
set_others word was place lt same k other = bit_at_set_other w64 was place lt k other ∙ ap (λ w. bit_at w k) same

pub invariant_of-self : goal.invariant_of-self
invariant_of-self c =
    let words = c.self.inside.words.items in
    let slot = c.args.slot in
    let grown = c.grow.new.self in
    let lt : slot < length grown = omega (arith, c.in_ok-grow.ensures.len, c.requires.small) in
    let small : slot % 64 < 64 = omega arith in
    let within : slot / 64 < length words = omega (arith, length-bits_of words, ap length c.self.view_is, lt) in
    let read = get_or_read words (slot / 64) c.index_mut.result.now within c.index_mut.ensures.value 0 in
    set_written words grown c.self.inside.number (c.self.inside.number + 1) slot 0 1 _ c.self.invariant c.self.view_is lt
    (c.in_ok-grow.ensures.ok slot ∙ c.requires.absent)
    (bit_at_set_same w64 c.index_mut.result.now (slot % 64) small)
    (λ k _ other. set_others (get_or words (slot / 64) 0) c.index_mut.result.now (slot % 64) small read k other)
    (omega arith)

pub returns-clause-ok : goal.returns-clause-ok
returns-clause-ok c k =
    let words = c.self.inside.words.items in
    let slot = c.args.slot in
    let grown = c.grow.new.self in
    let lt : slot < length grown = omega (arith, c.in_ok-grow.ensures.len, c.requires.small) in
    let small : slot % 64 < 64 = omega arith in
    let within : slot / 64 < length words = omega (arith, length-bits_of words, ap length c.self.view_is, lt) in
    let read = get_or_read words (slot / 64) c.index_mut.result.now within c.index_mut.ensures.value 0 in
    ap (λ l. get_or l k 0)
    (word_written words grown slot 1 _ c.self.view_is lt
    (bit_at_set_same w64 c.index_mut.result.now (slot % 64) small)
    (λ k _ other. set_others (get_or words (slot / 64) 0) c.index_mut.result.now (slot % 64) small read k other))
    ∙ set_changes grown slot 1 lt k
    ∙ ap (cond (eqb k slot) 1) (c.in_ok-grow.ensures.ok k)
