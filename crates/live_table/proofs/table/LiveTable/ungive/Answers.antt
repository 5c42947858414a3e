-- The handle's slot loses its box and one give, and gets a mark.
use Rattle.std.proofs.Common.{None, arith, ap, sym, ◌∙◌, refl, sum, ◌-◌, subst}
use Rattle.live_table.specs.Table.{IsTable, after_ungive}
use Rattle.live_table.proofs.EntryLemmas.{has_found}
use Rattle.live_table.proofs.PlacedSlots.{found_in, within_from_live, place_gives}
use Rattle.live_table.proofs.KeptTable.{table_of}
use Rattle.live_table.proofs.SlotCounts.{sum_set, gives_le}
use Rattle.live_table.proofs.UndoneSlot.{was_given, ungiven_is, kept_ungive}
use Rattle.live_table.proofs.BodyMaps.{found_present, left_bodies}
use Rattle.live_table.proofs.table.LiveTable.ungive.Goals as goal

pub index_mut-place-requires : goal.index_mut-place-requires
index_mut-place-requires c =
    let slots = c.self.inside.slots.items in
    let live = found_in slots c.args.self.now c.args.handle c.in-Ok.field-0 c.self.view_is c.in-Ok.ensures.found c.self.invariant.1.placed in
    omega (arith, within_from_live slots c.args.handle.slot c.in-Ok.field-0 live, c.self.inside.slots.ok.0)

pub overflow_sub-place : goal.overflow_sub-place
overflow_sub-place c =
    let slots = c.self.inside.slots.items in
    let live = found_in slots c.args.self.now c.args.handle c.in-Ok.field-0 c.self.view_is c.in-Ok.ensures.found c.self.invariant.1.placed in
    let within = within_from_live slots c.args.handle.slot c.in-Ok.field-0 live in
    let gives = place_gives slots c.args.handle.slot c.index_mut-place.result.now within c.index_mut-place.ensures.value in
    omega (arith, was_given slots c.args.handle.slot c.in-Ok.field-0 c.self.invariant.1.placed live, gives)

pub put-requires : goal.put-requires
put-requires c =
    let slots = c.self.inside.slots.items in
    let live = found_in slots c.args.self.now c.args.handle c.in-Ok.field-0 c.self.view_is c.in-Ok.ensures.found c.self.invariant.1.placed in
    omega (arith, within_from_live slots c.args.handle.slot c.in-Ok.field-0 live, c.self.invariant.1.few)

pub overflow_sub-self-2 : goal.overflow_sub-self-2
overflow_sub-self-2 c =
    let slots = c.self.inside.slots.items in
    let live = found_in slots c.args.self.now c.args.handle c.in-Ok.field-0 c.self.view_is c.in-Ok.ensures.found c.self.invariant.1.placed in
    omega (
      arith,
      was_given slots c.args.handle.slot c.in-Ok.field-0 c.self.invariant.1.placed live,
      gives_le slots c.args.handle.slot,
      c.self.invariant.1.summed,
    )

pub invariant_of-self : goal.invariant_of-self
invariant_of-self c =
    let slots = c.self.inside.slots.items in
    let live = found_in slots c.args.self.now c.args.handle c.in-Ok.field-0 c.self.view_is c.in-Ok.ensures.found c.self.invariant.1.placed in
    let within = within_from_live slots c.args.handle.slot c.in-Ok.field-0 live in
    let gives = place_gives slots c.args.handle.slot c.index_mut-place.result.now within c.index_mut-place.ensures.value in
    let some = was_given slots c.args.handle.slot c.in-Ok.field-0 c.self.invariant.1.placed live in (
      c.self.invariant.0,
      rw c.put.ensures
          (kept_ungive slots c.self.inside.freed c.self.inside.len c.self.inside.given c.args.handle.slot
          (record { gives = c.index_mut-place.result.now.gives - 1; live = None }) c.in-Ok.field-0 c.self.invariant.1 live (omega (arith, gives, some)) refl),
    )

pub returns-clause-after : goal.returns-clause-after
returns-clause-after c =
    let slots = c.self.inside.slots.items in
    let live = found_in slots c.args.self.now c.args.handle c.in-Ok.field-0 c.self.view_is c.in-Ok.ensures.found c.self.invariant.1.placed in
    let within = within_from_live slots c.args.handle.slot c.in-Ok.field-0 live in
    let gives = place_gives slots c.args.handle.slot c.index_mut-place.result.now within c.index_mut-place.ensures.value in
    let some = was_given slots c.args.handle.slot c.in-Ok.field-0 c.self.invariant.1.placed live in
    let named = has_found c.args.handle c.in-Ok.field-0 c.args.self.now.entries (sym c.in-Ok.ensures.found) in
    ungiven_is slots (record { gives = c.index_mut-place.result.now.gives - 1; live = None }) c.args.handle c.in-Ok.field-0 c.self.invariant.1.placed live named
    (omega (arith, gives, some)) refl ∙ ap (λ t. after_ungive t c.args.handle) c.self.view_is

pub returns-clause-count : goal.returns-clause-count
returns-clause-count c =
    let slots = c.self.inside.slots.items in
    let live = found_in slots c.args.self.now c.args.handle c.in-Ok.field-0 c.self.view_is c.in-Ok.ensures.found c.self.invariant.1.placed in
    let within = within_from_live slots c.args.handle.slot c.in-Ok.field-0 live in
    let gives = place_gives slots c.args.handle.slot c.index_mut-place.result.now within c.index_mut-place.ensures.value in
    let some = was_given slots c.args.handle.slot c.in-Ok.field-0 c.self.invariant.1.placed live in
    omega (
      arith,
      sum_set slots c.args.handle.slot (record { gives = c.index_mut-place.result.now.gives - 1; live = None }) within,
      gives,
      some,
      ap (λ t. sum t.gives) c.self.view_is,
    )

pub returns-clause-small : goal.returns-clause-small
returns-clause-small c =
    let slots = c.self.inside.slots.items in
    let live = found_in slots c.args.self.now c.args.handle c.in-Ok.field-0 c.self.view_is c.in-Ok.ensures.found c.self.invariant.1.placed in
    omega (arith, within_from_live slots c.args.handle.slot c.in-Ok.field-0 live, c.self.invariant.1.few)

pub returns-clause-table : goal.returns-clause-table
returns-clause-table c =
    let slots = c.self.inside.slots.items in
    let live = found_in slots c.args.self.now c.args.handle c.in-Ok.field-0 c.self.view_is c.in-Ok.ensures.found c.self.invariant.1.placed in
    let within = within_from_live slots c.args.handle.slot c.in-Ok.field-0 live in
    let gives = place_gives slots c.args.handle.slot c.index_mut-place.result.now within c.index_mut-place.ensures.value in
    let some = was_given slots c.args.handle.slot c.in-Ok.field-0 c.self.invariant.1.placed live in
    table_of (kept_ungive slots c.self.inside.freed c.self.inside.len c.self.inside.given c.args.handle.slot
    (record { gives = c.index_mut-place.result.now.gives - 1; live = None }) c.in-Ok.field-0 c.self.invariant.1 live (omega (arith, gives, some)) refl)

pub returns-clause-present : goal.returns-clause-present
returns-clause-present c =
    found_present c.args.self.now c.args.handle c.in-Ok.field-0 (subst IsTable c.self.view_is (table_of c.self.invariant.1)) c.in-Ok.ensures.found

pub returns-clause-bodies : goal.returns-clause-bodies
returns-clause-bodies c =
    left_bodies c.args.self.now _ c.args.handle c.in-Ok.field-0 (subst IsTable c.self.view_is (table_of c.self.invariant.1))
    c.in-Ok.ensures.found (ap (λ t. t.entries) (returns-clause-after c))
