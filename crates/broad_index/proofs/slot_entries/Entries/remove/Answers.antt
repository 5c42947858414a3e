-- The entry at the place of its slot is taken out as in the map.
use Rattle.std.proofs.Common.{ap, ◌∙◌, arith}
use Rattle.std.specs.Ordering.{nat_cmp}
use Rattle.std.specs.FinMap.{FinMap, contains_key, remove as remove_key}
use Rattle.fixed_box.specs.Bounds.{Bounds}
use Rattle.broad_index.proofs.PlainEntries.{at_within, placed, removed_are, removed_map}
use Rattle.broad_index.proofs.slot_entries.Entries.remove.Goals as goal

pub remove-requires : goal.remove-requires
remove-requires c =
    let slots = c.self.inside.slots.items in
    let boxes = c.self.inside.boxes.boxes in
    let a = c.self.invariant in
    let at = c.place-at.result in
    let p = placed slots boxes a c.args.self.now c.args.slot at c.self.view_is c.place-at.ensures in
    let present = ap (λ (m : FinMap nat_cmp Bounds). contains_key m c.args.slot) c.self.view_is ∙ c.requires in
    omega (arith, at_within slots boxes a c.args.slot at p present)

pub remove-requires-2 : goal.remove-requires-2
remove-requires-2 c =
    let slots = c.self.inside.slots.items in
    let boxes = c.self.inside.boxes.boxes in
    let a = c.self.invariant in
    let at = c.place-at.result in
    let p = placed slots boxes a c.args.self.now c.args.slot at c.self.view_is c.place-at.ensures in
    let present = ap (λ (m : FinMap nat_cmp Bounds). contains_key m c.args.slot) c.self.view_is ∙ c.requires in
    omega (arith, at_within slots boxes a c.args.slot at p present, a.same)

pub invariant_of-self : goal.invariant_of-self
invariant_of-self c =
    let slots = c.self.inside.slots.items in
    let boxes = c.self.inside.boxes.boxes in
    let a = c.self.invariant in
    let at = c.place-at.result in
    let p = placed slots boxes a c.args.self.now c.args.slot at c.self.view_is c.place-at.ensures in
    let present = ap (λ (m : FinMap nat_cmp Bounds). contains_key m c.args.slot) c.self.view_is ∙ c.requires in
    let law = c.beside_laws.ensures.removed slots boxes at a.same in
    rw (c.remove.ensures.items, c.remove-2.ensures.boxes)
    (removed_are slots boxes a c.args.slot at p present law)

pub returns : goal.returns
returns c =
    let slots = c.self.inside.slots.items in
    let boxes = c.self.inside.boxes.boxes in
    let a = c.self.invariant in
    let at = c.place-at.result in
    let p = placed slots boxes a c.args.self.now c.args.slot at c.self.view_is c.place-at.ensures in
    let present = ap (λ (m : FinMap nat_cmp Bounds). contains_key m c.args.slot) c.self.view_is ∙ c.requires in
    let law = c.beside_laws.ensures.removed slots boxes at a.same in
    rw (c.remove.ensures.items, c.remove-2.ensures.boxes)
    (removed_map slots boxes a c.args.slot at p present law
    ∙ ap (λ (m : FinMap nat_cmp Bounds). remove_key m c.args.slot) c.self.view_is)
