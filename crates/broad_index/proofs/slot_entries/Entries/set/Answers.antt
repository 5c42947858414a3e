-- The box at the place of its slot is put anew as in the map.
use Rattle.std.proofs.Common.{ap, ◌∙◌, arith}
use Rattle.std.specs.Ordering.{nat_cmp}
use Rattle.std.specs.FinMap.{FinMap, contains_key, insert as insert_key}
use Rattle.fixed_box.specs.Bounds.{Bounds}
use Rattle.broad_index.proofs.PlainEntries.{at_within, placed, set_are, set_map}
use Rattle.broad_index.proofs.slot_entries.Entries.set.Goals as goal

pub set-requires : goal.set-requires
set-requires c =
    let slots = c.self.inside.slots.items in
    let boxes = c.self.inside.boxes.boxes in
    let a = c.self.invariant in
    let at = c.place-at.result in
    let p = placed slots boxes a c.args.self.now c.args.slot at c.self.view_is c.place-at.ensures in
    let present = ap (λ (m : FinMap nat_cmp Bounds). contains_key m c.args.slot) c.self.view_is ∙ c.requires in
    omega (arith, at_within slots boxes a c.args.slot at p present, a.same)

pub invariant_of-self : goal.invariant_of-self
invariant_of-self c =
    let slots = c.self.inside.slots.items in
    let boxes = c.self.inside.boxes.boxes in
    let a = c.self.invariant in
    let at = c.place-at.result in
    let p = placed slots boxes a c.args.self.now c.args.slot at c.self.view_is c.place-at.ensures in
    let present = ap (λ (m : FinMap nat_cmp Bounds). contains_key m c.args.slot) c.self.view_is ∙ c.requires in
    let law = c.beside_laws.ensures.set slots boxes at c.args.body a.same in
    rw c.set.ensures.boxes (set_are slots boxes a c.args.slot at p present c.args.body c.space_law.ensures law)

pub returns : goal.returns
returns c =
    let slots = c.self.inside.slots.items in
    let boxes = c.self.inside.boxes.boxes in
    let a = c.self.invariant in
    let at = c.place-at.result in
    let p = placed slots boxes a c.args.self.now c.args.slot at c.self.view_is c.place-at.ensures in
    let present = ap (λ (m : FinMap nat_cmp Bounds). contains_key m c.args.slot) c.self.view_is ∙ c.requires in
    let law = c.beside_laws.ensures.set slots boxes at c.args.body a.same in
    rw c.set.ensures.boxes
    (set_map slots boxes a c.args.slot at p present c.args.body law
    ∙ ap (λ (m : FinMap nat_cmp Bounds). insert_key m c.args.slot c.args.body) c.self.view_is)
