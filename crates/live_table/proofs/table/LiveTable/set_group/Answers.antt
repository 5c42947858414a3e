-- The handle's slot is written with another owner and fixed mark. Where no entry has the handle, nothing is.
use Rattle.std.proofs.Common.{arith, ap, sym, ◌∙◌, refl}
use Rattle.live_table.specs.Table.{after_set_group}
use Rattle.live_table.proofs.EntryLemmas.{changed_none, has_found}
use Rattle.live_table.proofs.PlacedSlots.{found_in, within_from_live, place_gives}
use Rattle.live_table.proofs.KeptTable.{table_of}
use Rattle.live_table.proofs.ChangedSlot.{changed_is, kept_change}
use Rattle.live_table.proofs.BodyMaps.{grouped_bodies}
use Rattle.live_table.proofs.table.LiveTable.set_group.Goals as goal

pub returns-in_err-live-clause-after : goal.returns-in_err-live-clause-after
returns-in_err-live-clause-after c =
    ap (λ es. record c.args.self.now { entries = es })
    (sym (changed_none c.args.handle (λ entry. record entry { group = c.args.group }) c.args.self.now.entries (sym c.in_err-live.ensures.found)))

pub index_mut-requires : goal.index_mut-requires
index_mut-requires c =
    let slots = c.self.inside.slots.items in
    let live = found_in slots c.args.self.now c.args.handle c.in_ok-live.live c.self.view_is c.in_ok-live.ensures.found c.self.invariant.1.placed in
    omega (arith, within_from_live slots c.args.handle.slot c.in_ok-live.live live, c.self.inside.slots.ok.0)

pub invariant_of-self : goal.invariant_of-self
invariant_of-self c =
    let slots = c.self.inside.slots.items in
    let live = found_in slots c.args.self.now c.args.handle c.in_ok-live.live c.self.view_is c.in_ok-live.ensures.found c.self.invariant.1.placed in
    let within = within_from_live slots c.args.handle.slot c.in_ok-live.live live in
    let gives = place_gives slots c.args.handle.slot c.index_mut.result.now within c.index_mut.ensures.value in (
      c.self.invariant.0,
      kept_change slots c.self.inside.freed c.self.inside.len c.self.inside.given c.args.handle.slot _ c.in_ok-live.live _
          c.self.invariant.1 live gives refl refl (c.self.invariant.1.placed c.args.handle.slot c.in_ok-live.live live).2,
    )

pub returns-clause-after : goal.returns-clause-after
returns-clause-after c =
    let slots = c.self.inside.slots.items in
    let live = found_in slots c.args.self.now c.args.handle c.in_ok-live.live c.self.view_is c.in_ok-live.ensures.found c.self.invariant.1.placed in
    let within = within_from_live slots c.args.handle.slot c.in_ok-live.live live in
    let gives = place_gives slots c.args.handle.slot c.index_mut.result.now within c.index_mut.ensures.value in
    let named = has_found c.args.handle c.in_ok-live.live c.args.self.now.entries (sym c.in_ok-live.ensures.found) in
    changed_is slots _ c.args.handle (λ entry. record entry { group = c.args.group }) c.in_ok-live.live c.self.invariant.1.placed live named gives refl
    ∙ ap (λ t. after_set_group t c.args.handle c.args.group) c.self.view_is

pub returns-clause-small : goal.returns-clause-small
returns-clause-small c =
    let slots = c.self.inside.slots.items in
    let live = found_in slots c.args.self.now c.args.handle c.in_ok-live.live c.self.view_is c.in_ok-live.ensures.found c.self.invariant.1.placed in
    omega (arith, within_from_live slots c.args.handle.slot c.in_ok-live.live live, c.self.invariant.1.few)

pub returns-clause-table : goal.returns-clause-table
returns-clause-table c =
    let slots = c.self.inside.slots.items in
    let live = found_in slots c.args.self.now c.args.handle c.in_ok-live.live c.self.view_is c.in_ok-live.ensures.found c.self.invariant.1.placed in
    let within = within_from_live slots c.args.handle.slot c.in_ok-live.live live in
    let gives = place_gives slots c.args.handle.slot c.index_mut.result.now within c.index_mut.ensures.value in
    table_of (kept_change slots c.self.inside.freed c.self.inside.len c.self.inside.given c.args.handle.slot _ c.in_ok-live.live _ c.self.invariant.1 live
    gives refl refl (c.self.invariant.1.placed c.args.handle.slot c.in_ok-live.live live).2)

pub returns-clause-bodies : goal.returns-clause-bodies
returns-clause-bodies c = grouped_bodies c.args.self.now _ c.args.handle c.args.group (returns-clause-after c)
