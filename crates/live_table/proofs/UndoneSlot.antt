-- What `ungive` and `put_back` make of the slots, and of the table.
use Rattle.std.proofs.Common.{◌≡◌, ℕ, ◌+◌, ◌<◌, Bool, true, false, List, Some, None, length, get_or, set, refl, sym, ap, ◌∙◌, arith, ◌-◌, length-set}
use Rattle.std.proofs.Common.{inl, inr, slice_index, lt-ltb}
use Rattle.std.specs.Option.{option_to_list}
use Rattle.std.proofs.lemmas.Bool.{cases_lt}
use Rattle.std.proofs.lemmas.List.{get_or_past}
use Rattle.fixed_box.specs.Bounds.{meets}
use Rattle.fixed_box.specs.Space.{space}
use Rattle.live_table.specs.declared.TheConstants.{MOST_GIVES}
use Rattle.live_table.specs.declared.handle.Handle.{Handle}
use Rattle.live_table.specs.declared.live.Live.{Live}
use Rattle.live_table.specs.declared.slot.Slot.{Slot}
use Rattle.live_table.specs.Entries.{slot_of, has, live_at}
use Rattle.live_table.specs.Slots.{entries_of, gives_of, never_given, IsPlaced, AreInStep}
use Rattle.live_table.specs.Table.{after_ungive, after_put_back}
use Rattle.live_table.proofs.PlacedSlots.{live_in, live_at_is, within_from_live, table_in}
use Rattle.live_table.proofs.SlotCounts.{len_set, sum_set, gives_at, gives_set, gives_stay}
use Rattle.live_table.proofs.WrittenSlot.{enter_set, take_set, placed_set, bound_set, with_box, without_box, marked_set}

-- a slot with a box was given
pub was_given : (slots : List Slot) (i : ℕ) (e : Live) → IsPlaced 0 slots → live_in slots i ≡ Some e → 0 < (get_or slots i never_given).gives
was_given slots i e placed live = omega (arith, (placed i e live).1)

pub kept_ungive : (slots : List Slot) (freed : List Bool) (len given i : ℕ) (s : Slot) (e : Live) → AreInStep slots freed len given
    → live_in slots i ≡ Some e → s.gives + 1 ≡ (get_or slots i never_given).gives → s.live ≡ None
    → AreInStep (set slots i s) (set freed i true) (len - 1) (given - 1)
kept_ungive slots freed len given i s e kept live gives is =
    let lt : i < length slots = within_from_live slots i e live in record {
      few = omega (arith, length-set slots i s, kept.few);
      placed = placed_set 0 i slots s kept.placed lt (λ g at. absurd (cc));
      bound = bound_set slots i s kept.bound lt (omega (arith, gives, kept.bound i));
      marks = length-set freed i true ∙ kept.marks;
      marked = λ k. marked_set slots freed i k s true lt (omega (arith, kept.marks, kept.few))
          (sym (lt-ltb s.gives MOST_GIVES (omega (arith, gives, kept.bound i))) ∙ without_box s is) (λ _. kept.marked k);
      counted =
          let before : length (option_to_list (live_in slots i)) ≡ 1 = rw live refl in
          let after : length (option_to_list s.live) ≡ 0 = rw is refl in
          omega (arith, kept.counted, len_set slots i s lt, before, after);
      summed = omega (arith, kept.summed, sum_set slots i s lt, gives);
    }

pub ungiven_is : (slots : List Slot) (s : Slot) (handle : Handle) (e : Live) → IsPlaced 0 slots → live_in slots handle.slot ≡ Some e → has handle e ≡ true
    → s.gives + 1 ≡ (get_or slots handle.slot never_given).gives → s.live ≡ None
    → table_in (set slots handle.slot s) ≡ after_ungive (table_in slots) handle
ungiven_is slots s handle e placed live named gives is =
    let lowered : s.gives ≡ get_or (gives_of slots) handle.slot 0 - 1 = omega (arith, gives, gives_at slots handle.slot) in
    rw (
      take_set 0 handle.slot slots s handle e placed (omega arith) live named is,
      gives_set slots handle.slot s (within_from_live slots handle.slot e live),
      lowered,
    ) refl

-- a slot that was given is among the slots
pub within_from_gives : (slots : List Slot) (i n : ℕ) → slice_index (gives_of slots) i ≡ n + 1 → i < length slots
within_from_gives slots i n given =
    elim (cases_lt i (length slots)) [
      | inl lt ↦ lt
      | inr past ↦ absurd (let none : (get_or slots i never_given).gives ≡ 0 = ap (λ s. s.gives) (get_or_past slots i never_given past) in
          omega (arith, given, gives_at slots i, none))
    ]

pub free_place : (slots : List Slot) (slot : ℕ) → IsPlaced 0 slots → live_at slot (entries_of slots) ≡ None → live_in slots slot ≡ None
free_place slots slot placed free = sym (live_at_is 0 slot slot slots placed (omega arith)) ∙ free

pub kept_put_back : (slots : List Slot) (freed : List Bool) (len given : ℕ) (s : Slot) (e : Live) → AreInStep slots freed len given
    → slot_of e < length slots → live_in slots (slot_of e) ≡ None → s.gives ≡ (get_or slots (slot_of e) never_given).gives
    → e.handle.generation + 1 ≡ s.gives → s.live ≡ Some e → meets space e.body ≡ true
    → AreInStep (set slots (slot_of e) s) (set freed (slot_of e) false) (len + 1) given
kept_put_back slots freed len given s e kept lt free gives newest is in_space = record {
  few = omega (arith, length-set slots (slot_of e) s, kept.few);
  placed = placed_set 0 (slot_of e) slots s kept.placed lt (λ g at.
      let same : e ≡ g = cc in (
        ap slot_of (sym same) ∙ omega arith,
        ap (λ g. g.handle.generation + 1) (sym same) ∙ newest,
        ap (λ g. meets space g.body) (sym same) ∙ in_space,
      ));
  bound = bound_set slots (slot_of e) s kept.bound lt (omega (arith, gives, kept.bound (slot_of e)));
  marks = length-set freed (slot_of e) false ∙ kept.marks;
  marked = λ k.
      marked_set slots freed (slot_of e) k s false lt (omega (arith, kept.marks, kept.few)) (sym (with_box s e is)) (λ _. kept.marked k);
  counted =
      let before : length (option_to_list (live_in slots (slot_of e))) ≡ 0 = rw free refl in
      let after : length (option_to_list s.live) ≡ 1 = rw is refl in
      omega (arith, kept.counted, len_set slots (slot_of e) s lt, before, after);
  summed = omega (arith, kept.summed, sum_set slots (slot_of e) s lt, gives);
}

pub put_back_is : (slots : List Slot) (s : Slot) (e : Live) → IsPlaced 0 slots → slot_of e < length slots → live_in slots (slot_of e) ≡ None
    → s.gives ≡ (get_or slots (slot_of e) never_given).gives → s.live ≡ Some e
    → table_in (set slots (slot_of e) s) ≡ after_put_back (table_in slots) e
put_back_is slots s e placed lt free gives is =
    rw (
      enter_set 0 (slot_of e) slots s e placed lt free (omega arith) is,
      gives_stay slots (slot_of e) s lt gives,
    ) refl
