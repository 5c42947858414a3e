-- The opened slot is filled: entries, gives, marks and counts follow from a write of that one slot.
use Rattle.std.proofs.Common.{◌≡◌, ℕ, Bool, true, false, ◌+◌, List, Some, arith, length, get_or, set, sum, ap, sym, subst, ◌∙◌, refl}
use Rattle.fixed_box.specs.Bounds.{Bounds, meets}
use Rattle.fixed_box.specs.Space.{space}
use Rattle.fixed_box.specs.declared.TheConstants.{SLOTS}
use Rattle.live_table.specs.declared.masks.Masks.{Masks}
use Rattle.live_table.specs.declared.group.Group.{Group}
use Rattle.live_table.specs.declared.slot.Slot.{Slot}
use Rattle.live_table.specs.Slots.{opened, gives_of, AreInStep, IsLeastVacant}
use Rattle.live_table.specs.Table.{next_handle, after_give, least_free, IsLeastFree, IsTable}
use Rattle.live_table.proofs.FreeSlots.{all_live}
use Rattle.live_table.proofs.PlacedSlots.{table_in}
use Rattle.live_table.proofs.SlotCounts.{len_le, sum_few}
use Rattle.live_table.proofs.KeptTable.{table_of}
use Rattle.live_table.proofs.OpenedSlot.{not_full, opened_place, least_free_is, least_free_so, none_free_is, vacant_few}
use Rattle.live_table.proofs.GivenSlot.{next_is, given_is, kept_give, give_sum}
use Rattle.live_table.proofs.BodyMaps.{given_absent, given_bodies}
use Rattle.live_table.proofs.table.LiveTable.give.Goals as goal

-- the slot as it is afterwards
abbrev filled : ℕ → ℕ → Bounds → Masks → Group → Slot
filled slot gives body masks group =
    record { gives = gives + 1; live = Some (record { handle = record { slot = slot; generation = gives }; body = body; masks = masks; group = group }) }

-- what is kept, once the opened slot is filled
kept_filled : (slots items : List Slot) (freed marks : List Bool) (len given slot : ℕ) (place : Slot) (body : Bounds) (masks : Masks) (group : Group)
    → AreInStep slots freed len given → IsLeastVacant slots slot → items ≡ opened slot slots → marks ≡ set freed slot false
    → place ≡ get_or items slot place → meets space body ≡ true
    → AreInStep (set items slot (filled slot place.gives body masks group)) marks (len + 1) (given + 1)
kept_filled slots items freed marks len given slot place body masks group kept least opens unmarks at in_space =
    let gives = opened_place slots items slot place least opens at in
    rw (opens, unmarks) (kept_give slots freed len given slot (filled slot place.gives body masks group)
    (record { handle = record { slot = slot; generation = place.gives }; body = body; masks = masks; group = group }) kept least
    (ap (λ n. n + 1) gives) refl refl refl in_space)

pub returns-in_default-clause-full : goal.returns-in_default-clause-full
returns-in_default-clause-full c =
    let slots = c.self.inside.slots.items in
    let whole : length slots ≡ SLOTS = omega (arith, c.in_default.ensures.full, c.self.inside.slots.ok.0) in
    let full : least_free (table_in slots) ≡ SLOTS = none_free_is slots c.self.invariant.1.placed whole c.in_default.ensures.live in
    (λ _. ap least_free (sym c.self.view_is) ∙ full, λ _. refl)

pub returns-in_default-clause-few : goal.returns-in_default-clause-few
returns-in_default-clause-few c few =
    (λ none. all_live c.args.self.now (subst IsTable c.self.view_is (table_of c.self.invariant.1)) few ((returns-in_default-clause-full c).0 none), λ _. refl)

pub returns-in_default-clause-table : goal.returns-in_default-clause-table
returns-in_default-clause-table c = subst (λ items. IsTable (table_in items)) (sym c.in_default.ensures.slots_stay) (table_of c.self.invariant.1)

pub overflow_add-place : goal.overflow_add-place
overflow_add-place c =
    let gives = opened_place c.self.inside.slots.items c.open_slot.new.slots.items c.in-Some.slot c.index_mut-place.result.now c.in-Some.ensures.least
    c.in-Some.ensures.opened c.index_mut-place.ensures.value in
    omega (arith, gives, vacant_few c.self.inside.slots.items c.in-Some.slot c.in-Some.ensures.least)

pub overflow_add-self : goal.overflow_add-self
overflow_add-self c = omega (arith, c.self.invariant.1.counted, len_le c.self.inside.slots.items, c.self.invariant.1.few)

pub overflow_add-self-2 : goal.overflow_add-self-2
overflow_add-self-2 c = omega (arith, c.self.invariant.1.summed, sum_few c.self.inside.slots.items c.self.invariant.1.bound c.self.invariant.1.few)

pub invariant_of-self-2 : goal.invariant_of-self-2
invariant_of-self-2 c = (
  c.in-Some.ensures.room,
  kept_filled c.self.inside.slots.items c.open_slot.new.slots.items c.self.inside.freed c.open_slot.new.freed c.self.inside.len c.self.inside.given
      c.in-Some.slot c.index_mut-place.result.now c.args.body c.args.masks c.args.group
      c.self.invariant.1 c.in-Some.ensures.least c.in-Some.ensures.opened c.in-Some.ensures.unmarked c.index_mut-place.ensures.value c.space_law.ensures,
)

pub returns-clause-handle : goal.returns-clause-handle
returns-clause-handle c =
    let slots = c.self.inside.slots.items in
    let gives = opened_place slots c.open_slot.new.slots.items c.in-Some.slot c.index_mut-place.result.now c.in-Some.ensures.least c.in-Some.ensures.opened
    c.index_mut-place.ensures.value in
    next_is slots c.in-Some.slot c.index_mut-place.result.now.gives c.self.invariant.1.placed c.in-Some.ensures.least gives ∙ ap next_handle c.self.view_is

pub returns-clause-given : goal.returns-clause-given
returns-clause-given c =
    let slots = c.self.inside.slots.items in
    let slot = c.in-Some.slot in
    let place = c.index_mut-place.result.now in
    let least = c.in-Some.ensures.least in
    let gives = opened_place slots c.open_slot.new.slots.items slot place least c.in-Some.ensures.opened c.index_mut-place.ensures.value in
    let handle = next_is slots slot place.gives c.self.invariant.1.placed least gives in
    ap (λ items. table_in (set items slot (filled slot place.gives c.args.body c.args.masks c.args.group))) c.in-Some.ensures.opened
    ∙ given_is slots slot (filled slot place.gives c.args.body c.args.masks c.args.group) c.args.body c.args.masks c.args.group
    (record { slot = slot; generation = place.gives }) c.self.invariant.1.placed least handle (ap (λ n. n + 1) gives) refl
    ∙ ap (λ t. after_give t c.args.body c.args.masks c.args.group) c.self.view_is

pub returns-clause-full : goal.returns-clause-full
returns-clause-full c =
    let slots = c.self.inside.slots.items in
    let slot : least_free (table_in slots) ≡ c.in-Some.slot = least_free_is slots c.in-Some.slot c.self.invariant.1.placed c.in-Some.ensures.least in
    (λ e. cc, λ full. absurd (omega (arith, ap least_free c.self.view_is, slot, c.in-Some.ensures.least.small, full)))

pub returns-clause-few : goal.returns-clause-few
returns-clause-few c few =
    let room = not_full c.self.inside.slots.items c.in-Some.slot c.in-Some.ensures.least c.self.invariant.1.few in
    (λ e. cc, λ full. absurd (omega (arith, room, ap (λ t. length t.entries) c.self.view_is, full)))

pub returns-clause-free : goal.returns-clause-free
returns-clause-free c =
    subst (IsLeastFree c.in-Some.slot) c.self.view_is
    (least_free_so c.self.inside.slots.items c.in-Some.slot c.self.invariant.1.placed c.in-Some.ensures.least)

pub returns-clause-count : goal.returns-clause-count
returns-clause-count c =
    let slots = c.self.inside.slots.items in
    let slot = c.in-Some.slot in
    let place = c.index_mut-place.result.now in
    let gives = opened_place slots c.open_slot.new.slots.items slot place c.in-Some.ensures.least c.in-Some.ensures.opened c.index_mut-place.ensures.value in
    ap (λ items. sum (gives_of (set items slot (filled slot place.gives c.args.body c.args.masks c.args.group)))) c.in-Some.ensures.opened
    ∙ give_sum slots slot (filled slot place.gives c.args.body c.args.masks c.args.group) c.in-Some.ensures.least (ap (λ n. n + 1) gives)
    ∙ ap (λ t. sum t.gives + 1) c.self.view_is

pub returns-clause-table : goal.returns-clause-table
returns-clause-table c =
    table_of (kept_filled c.self.inside.slots.items c.open_slot.new.slots.items c.self.inside.freed c.open_slot.new.freed c.self.inside.len
    c.self.inside.given c.in-Some.slot c.index_mut-place.result.now c.args.body c.args.masks c.args.group
    c.self.invariant.1 c.in-Some.ensures.least c.in-Some.ensures.opened c.in-Some.ensures.unmarked c.index_mut-place.ensures.value c.space_law.ensures)

pub returns-clause-absent : goal.returns-clause-absent
returns-clause-absent c =
    given_absent c.args.self.now c.in-Some.slot (subst IsTable c.self.view_is (table_of c.self.invariant.1)) (returns-clause-free c)

pub returns-clause-bodies : goal.returns-clause-bodies
returns-clause-bodies c =
    given_bodies c.args.self.now _ _ c.args.body c.args.masks c.args.group (subst IsTable c.self.view_is (table_of c.self.invariant.1))
    (returns-clause-table c) (returns-clause-free c) (returns-clause-handle c) (returns-clause-given c)
