-- The slot that the next give opens, and how often it was given.
use Rattle.std.proofs.Common.{◌≡◌, arith, length, ap, sym, subst, ◌∙◌, slice_index_or, false, is_some}
use Rattle.fixed_box.specs.declared.TheConstants.{SLOTS}
use Rattle.live_table.specs.Slots.{vacant, never_given, IsLeastVacant}
use Rattle.live_table.specs.Table.{IsTable, least_free, IsLeastFree, next_handle}
use Rattle.live_table.proofs.BodyMaps.{given_absent}
use Rattle.live_table.proofs.GivenSlot.{next_is}
use Rattle.live_table.proofs.KeptTable.{table_of}
use Rattle.live_table.proofs.OpenedSlot.{least_free_is, least_free_so, none_free_is}
use Rattle.live_table.proofs.PlacedSlots.{table_in}
use Rattle.live_table.proofs.table.LiveTable.next.Goals as goal

pub returns-in_err-slot-clause-full : goal.returns-in_err-slot-clause-full
returns-in_err-slot-clause-full c =
    let slots = c.self.inside.slots.items in
    let whole : length slots ≡ SLOTS = ap length (sym c.deref.ensures.value) ∙ c.in_err-slot.ensures.full in
    let full : least_free (table_in slots) ≡ SLOTS = none_free_is slots c.self.invariant.1.placed whole
    (λ k. ap (λ xs. slice_index_or (vacant xs) k false) (sym c.deref.ensures.value) ∙ c.in_err-slot.ensures.live k) in
    (λ _. ap least_free (sym c.self.view_is) ∙ full, λ _. ap is_some c.from_residual.ensures)

pub returns-clause-handle : goal.returns-clause-handle
returns-clause-handle c =
    let slots = c.self.inside.slots.items in
    let slot = c.in_ok-slot.slot in
    let least = subst (λ xs. IsLeastVacant xs slot) c.deref.ensures.value c.in_ok-slot.ensures.least in
    let gives = c.gives_so_far-generation.ensures ∙ ap (λ xs. (slice_index_or xs slot never_given).gives) c.deref-2.ensures.value in
    next_is slots slot c.gives_so_far-generation.result c.self.invariant.1.placed least gives ∙ ap next_handle c.self.view_is

pub returns-clause-full : goal.returns-clause-full
returns-clause-full c =
    let slots = c.self.inside.slots.items in
    let least = subst (λ xs. IsLeastVacant xs c.in_ok-slot.slot) c.deref.ensures.value c.in_ok-slot.ensures.least in
    let slot : least_free (table_in slots) ≡ c.in_ok-slot.slot = least_free_is slots c.in_ok-slot.slot c.self.invariant.1.placed least in
    (λ e. cc, λ full. absurd (omega (arith, ap least_free c.self.view_is, slot, least.small, full)))

pub returns-clause-free : goal.returns-clause-free
returns-clause-free c =
    let slots = c.self.inside.slots.items in
    let least = subst (λ xs. IsLeastVacant xs c.in_ok-slot.slot) c.deref.ensures.value c.in_ok-slot.ensures.least in
    subst (IsLeastFree c.in_ok-slot.slot) c.self.view_is (least_free_so slots c.in_ok-slot.slot c.self.invariant.1.placed least)

pub returns-clause-absent : goal.returns-clause-absent
returns-clause-absent c =
    given_absent c.args.self.now c.in_ok-slot.slot (subst IsTable c.self.view_is (table_of c.self.invariant.1)) (returns-clause-free c)
