-- The box's slot, which has none, is written with it, and loses its mark.
use Rattle.std.proofs.Common.{arith, ap, ◌∙◌, refl, sym, slice_index, subst}
use Rattle.live_table.specs.Entries.{live_at}
use Rattle.live_table.specs.Table.{IsTable, after_put_back}
use Rattle.live_table.proofs.PlacedSlots.{place_gives}
use Rattle.live_table.proofs.KeptTable.{table_of}
use Rattle.live_table.proofs.SlotCounts.{gives_at, len_le}
use Rattle.live_table.proofs.UndoneSlot.{within_from_gives, free_place, kept_put_back, put_back_is}
use Rattle.live_table.proofs.BodyMaps.{vacated_absent, put_back_bodies}
use Rattle.live_table.proofs.table.LiveTable.put_back.Goals as goal

pub overflow_add-self : goal.overflow_add-self
overflow_add-self c = omega (arith, c.self.invariant.1.counted, len_le c.self.inside.slots.items, c.self.invariant.1.few)

pub invariant_of-self : goal.invariant_of-self
invariant_of-self c =
    let slots = c.self.inside.slots.items in
    let slot = c.args.live.handle.slot in
    let given = ap (λ t. slice_index t.gives slot) c.self.view_is ∙ c.requires.vacated.given in
    let within = within_from_gives slots slot c.args.live.handle.generation given in
    let free = free_place slots slot c.self.invariant.1.placed (ap (λ t. live_at slot t.entries) c.self.view_is ∙ c.requires.vacated.free) in
    let gives = place_gives slots slot c.index_mut.result.now within c.index_mut.ensures.value in (
      c.self.invariant.0,
      rw c.unmark.ensures
          (kept_put_back slots c.self.inside.freed c.self.inside.len c.self.inside.given _ c.args.live c.self.invariant.1 within free gives
          (sym (gives ∙ sym (gives_at slots slot) ∙ given)) refl c.space_law.ensures),
    )

pub returns-clause-after : goal.returns-clause-after
returns-clause-after c =
    let slots = c.self.inside.slots.items in
    let slot = c.args.live.handle.slot in
    let given = ap (λ t. slice_index t.gives slot) c.self.view_is ∙ c.requires.vacated.given in
    let within = within_from_gives slots slot c.args.live.handle.generation given in
    let free = free_place slots slot c.self.invariant.1.placed (ap (λ t. live_at slot t.entries) c.self.view_is ∙ c.requires.vacated.free) in
    let gives = place_gives slots slot c.index_mut.result.now within c.index_mut.ensures.value in
    put_back_is slots _ c.args.live c.self.invariant.1.placed within free gives refl ∙ ap (λ t. after_put_back t c.args.live) c.self.view_is

pub returns-clause-table : goal.returns-clause-table
returns-clause-table c =
    let slots = c.self.inside.slots.items in
    let slot = c.args.live.handle.slot in
    let given = ap (λ t. slice_index t.gives slot) c.self.view_is ∙ c.requires.vacated.given in
    let within = within_from_gives slots slot c.args.live.handle.generation given in
    let free = free_place slots slot c.self.invariant.1.placed (ap (λ t. live_at slot t.entries) c.self.view_is ∙ c.requires.vacated.free) in
    let gives = place_gives slots slot c.index_mut.result.now within c.index_mut.ensures.value in
    table_of (kept_put_back slots c.self.inside.freed c.self.inside.len c.self.inside.given _ c.args.live c.self.invariant.1 within free gives
    (sym (gives ∙ sym (gives_at slots slot) ∙ given)) refl c.space_law.ensures)

pub returns-clause-absent : goal.returns-clause-absent
returns-clause-absent c =
    vacated_absent c.args.self.now c.args.live (subst IsTable c.self.view_is (table_of c.self.invariant.1)) c.requires.vacated

pub returns-clause-bodies : goal.returns-clause-bodies
returns-clause-bodies c =
    put_back_bodies c.args.self.now _ c.args.live (subst IsTable c.self.view_is (table_of c.self.invariant.1)) (returns-clause-table c)
    c.requires.vacated (returns-clause-after c)
