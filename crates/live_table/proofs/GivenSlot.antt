-- What `give` makes of the slots, and of the table.
use Rattle.std.proofs.Common.{◌≡◌, ℕ, ◌+◌, Bool, true, false, List, Some, length, get_or, set, refl, sym, ap, ◌∙◌, arith, sum, slice_index, length-set}
use Rattle.live_table.specs.declared.handle.Handle.{Handle}
use Rattle.live_table.specs.declared.live.Live.{Live}
use Rattle.live_table.specs.declared.masks.Masks.{Masks}
use Rattle.live_table.specs.declared.group.Group.{Group}
use Rattle.fixed_box.specs.Bounds.{Bounds, meets}
use Rattle.fixed_box.specs.Space.{space}
use Rattle.live_table.specs.declared.slot.Slot.{Slot}
use Rattle.live_table.specs.Entries.{slot_of, entered}
use Rattle.live_table.specs.Table.{raised, least_free, next_handle, after_give}
use Rattle.live_table.specs.Slots.{entries_of, gives_of, never_given, opened, IsPlaced, AreInStep, IsLeastVacant}
use Rattle.live_table.proofs.EntryLemmas.{length-entered}
use Rattle.live_table.proofs.PlacedSlots.{table_in}
use Rattle.live_table.proofs.SlotCounts.{gives_at, gives_set, sum_set}
use Rattle.live_table.proofs.WrittenSlot.{enter_set, placed_set, bound_set, with_box, marked_set}
use Rattle.live_table.proofs.OpenedSlot.{get_or-opened, length-opened, opened_few, entries_of-opened, gives-opened, vacant-opened, placed_opened, bound_opened}
use Rattle.live_table.proofs.OpenedSlot.{live_in_vacant, vacant_few, least_free_is}

give_entries : (slots : List Slot) (slot : ℕ) (s : Slot) (new : Live) → IsPlaced 0 slots → IsLeastVacant slots slot → s.live ≡ Some new → slot_of new ≡ slot
    → entries_of (set (opened slot slots) slot s) ≡ entered new (entries_of slots)
give_entries slots slot s new placed least is at =
    enter_set 0 slot (opened slot slots) s new (placed_opened 0 slots slot least.next placed) (length-opened slots slot least.next)
    (ap (λ s. s.live) (get_or-opened slots slot slot least.next) ∙ live_in_vacant slots slot least) (omega (arith, at)) is
    ∙ ap (entered new) (entries_of-opened slots slot least.next)

give_gives : (slots : List Slot) (slot : ℕ) (s : Slot) → IsLeastVacant slots slot → s.gives ≡ (get_or slots slot never_given).gives + 1
    → gives_of (set (opened slot slots) slot s) ≡ raised (gives_of slots) slot
give_gives slots slot s least is =
    gives_set (opened slot slots) slot s (length-opened slots slot least.next)
    ∙ ap (λ ns. set ns slot s.gives) (gives-opened slots slot least.next least.small)
    ∙ ap (set (gives_of slots) slot) (is ∙ ap (λ n. n + 1) (sym (gives_at slots slot)))

pub give_sum : (slots : List Slot) (slot : ℕ) (s : Slot) → IsLeastVacant slots slot → s.gives ≡ (get_or slots slot never_given).gives + 1
    → sum (gives_of (set (opened slot slots) slot s)) ≡ sum (gives_of slots) + 1
give_sum slots slot s least is =
    omega (
      arith,
      sum_set (opened slot slots) slot s (length-opened slots slot least.next),
      ap sum (gives-opened slots slot least.next least.small),
      ap (λ s. s.gives) (get_or-opened slots slot slot least.next),
      is,
    )

pub kept_give : (slots : List Slot) (freed : List Bool) (len given slot : ℕ) (s : Slot) (new : Live) → AreInStep slots freed len given
    → IsLeastVacant slots slot → s.gives ≡ (get_or slots slot never_given).gives + 1
    → s.live ≡ Some new → slot_of new ≡ slot → new.handle.generation + 1 ≡ s.gives → meets space new.body ≡ true
    → AreInStep (set (opened slot slots) slot s) (set freed slot false) (len + 1) (given + 1)
kept_give slots freed len given slot s new kept least gives is at generation in_space = record {
  few = omega (arith, length-set (opened slot slots) slot s, opened_few slots slot least.next least.small kept.few);
  placed = placed_set 0 slot (opened slot slots) s (placed_opened 0 slots slot least.next kept.placed) (length-opened slots slot least.next) (λ e live.
      let same : new ≡ e = cc in (
        ap slot_of (sym same) ∙ omega (arith, at),
        ap (λ e. e.handle.generation + 1) (sym same) ∙ generation,
        ap (λ e. meets space e.body) (sym same) ∙ in_space,
      ));
  bound = bound_set (opened slot slots) slot s (bound_opened slots slot least.next kept.bound) (length-opened slots slot least.next)
      (omega (arith, gives, vacant_few slots slot least));
  marks = length-set freed slot false ∙ kept.marks;
  marked = λ k. marked_set (opened slot slots) freed slot k s false (length-opened slots slot least.next) (omega (arith, kept.marks, least.small))
      (sym (with_box s new is)) (λ other. kept.marked k ∙ sym (vacant-opened slots slot k least.next other));
  counted =
      let e = give_entries slots slot s new kept.placed least is at in
      let grown : length (entered new (entries_of slots)) ≡ length (entries_of slots) + 1 = length-entered new (entries_of slots) in
      omega (arith, kept.counted, ap length e, grown);
  summed = omega (arith, kept.summed, give_sum slots slot s least gives);
}

pub next_is : (slots : List Slot) (slot gives : ℕ) → IsPlaced 0 slots → IsLeastVacant slots slot → gives ≡ (get_or slots slot never_given).gives
    → ◌≡◌ {A = Handle} (record { slot = slot; generation = gives }) (next_handle (table_in slots))
next_is slots slot gives placed least is =
    let free : least_free (table_in slots) ≡ slot = least_free_is slots slot placed least in
    let generation : slice_index (gives_of slots) (least_free (table_in slots)) ≡ gives = ap (slice_index (gives_of slots)) free ∙ gives_at slots slot
    ∙ sym is in
    rw (generation, free) refl

pub given_is : (slots : List Slot) (slot : ℕ) (s : Slot) (body : Bounds) (masks : Masks) (group : Group) (handle : Handle)
    → IsPlaced 0 slots → IsLeastVacant slots slot
    → handle ≡ next_handle (table_in slots)
    → s.gives ≡ (get_or slots slot never_given).gives + 1 → s.live ≡ Some (record { handle = handle; body = body; masks = masks; group = group })
    → table_in (set (opened slot slots) slot s) ≡ after_give (table_in slots) body masks group
given_is slots slot s body masks group handle placed least named gives is =
    let free : least_free (table_in slots) ≡ slot = least_free_is slots slot placed least in
    let entries : entries_of (set (opened slot slots) slot s)
    ≡ entered (record { handle = next_handle (table_in slots); body = body; masks = masks; group = group }) (entries_of slots) =
    give_entries slots slot s (record { handle = handle; body = body; masks = masks; group = group }) placed least is (ap (λ h. h.slot) named ∙ free)
    ∙ ap (λ h. entered (record { handle = h; body = body; masks = masks; group = group }) (entries_of slots)) named in
    let counts : gives_of (set (opened slot slots) slot s) ≡ raised (gives_of slots) (least_free (table_in slots)) = give_gives slots slot s least gives
    ∙ ap (raised (gives_of slots)) (sym free) in
    rw (entries, counts) refl
