-- An entry at the place for its slot is put in as in the map.
use Rattle.std.proofs.Common.{ap, ◌∙◌, arith}
use Rattle.std.specs.Ordering.{nat_cmp}
use Rattle.std.specs.FinMap.{FinMap, contains_key, insert as insert_key}
use Rattle.fixed_box.specs.Bounds.{Bounds}
use Rattle.broad_index.proofs.PlainEntries.{inserted_are, inserted_map, placed, zip_long}
use Rattle.broad_index.proofs.slot_entries.Entries.insert.Goals as goal

pub insert-requires : goal.insert-requires
insert-requires c =
    let slots = c.self.inside.slots.items in
    let boxes = c.self.inside.boxes.boxes in
    let a = c.self.invariant in
    let at = c.place-at.result in
    let p = placed slots boxes a c.args.self.now c.args.slot at c.self.view_is c.place-at.ensures in
    omega (arith, p.bound, zip_long slots boxes a, a.same)

pub insert-requires-2 : goal.insert-requires-2
insert-requires-2 c =
    let slots = c.self.inside.slots.items in
    let boxes = c.self.inside.boxes.boxes in
    let a = c.self.invariant in
    let at = c.place-at.result in
    let p = placed slots boxes a c.args.self.now c.args.slot at c.self.view_is c.place-at.ensures in
    omega (arith, p.bound, zip_long slots boxes a, c.reserve.ensures.len)

pub invariant_of-self-2 : goal.invariant_of-self-2
invariant_of-self-2 c =
    let slots = c.self.inside.slots.items in
    let boxes = c.self.inside.boxes.boxes in
    let a = c.self.invariant in
    let at = c.place-at.result in
    let p = placed slots boxes a c.args.self.now c.args.slot at c.self.view_is c.place-at.ensures in
    let absent = ap (λ (m : FinMap nat_cmp Bounds). contains_key m c.args.slot) c.self.view_is ∙ c.requires.absent in
    let law = c.beside_laws.ensures.inserted slots boxes at c.args.slot c.args.body a.same in
    rw (c.insert-2.ensures.items, c.unwrap.ensures, c.reserve.ensures.items, c.in_ok-insert.ensures.ok)
    (inserted_are slots boxes a c.args.slot at p c.args.body c.requires.small c.space_law.ensures absent law)

pub returns : goal.returns
returns c =
    let slots = c.self.inside.slots.items in
    let boxes = c.self.inside.boxes.boxes in
    let a = c.self.invariant in
    let at = c.place-at.result in
    let p = placed slots boxes a c.args.self.now c.args.slot at c.self.view_is c.place-at.ensures in
    let absent = ap (λ (m : FinMap nat_cmp Bounds). contains_key m c.args.slot) c.self.view_is ∙ c.requires.absent in
    let law = c.beside_laws.ensures.inserted slots boxes at c.args.slot c.args.body a.same in
    rw (c.insert-2.ensures.items, c.unwrap.ensures, c.reserve.ensures.items, c.in_ok-insert.ensures.ok)
    (record {
      ok =
          inserted_map slots boxes a c.args.slot at p c.args.body absent law
          ∙ ap (λ (m : FinMap nat_cmp Bounds). insert_key m c.args.slot c.args.body) c.self.view_is;
    })
