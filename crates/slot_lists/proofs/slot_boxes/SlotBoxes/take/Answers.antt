-- A wiping is a removal, and one slot fewer is present.
use Rattle.std.proofs.Common.{◌≡◌, ◌-◌, true, arith, sym, ◌∙◌, ap, None}
use Rattle.std.proofs.lemmas.List.{length-set}
use Rattle.std.specs.Ordering.{nat_cmp}
use Rattle.std.specs.FinMap.{FinMap, contains_key, len, remove}
use Rattle.fixed_box.specs.Bounds.{Bounds}
use Rattle.slot_lists.specs.SlotMap.{map_of}
use Rattle.slot_lists.specs.SlotMapLaws.{map_take}
use Rattle.slot_lists.proofs.SlotCounts.{one_fewer, present_within, some_there}
use Rattle.slot_lists.proofs.slot_boxes.SlotBoxes.take.Goals as goal

pub index_mut-requires : goal.index_mut-requires
index_mut-requires c = omega (arith, c.self.inside.boxes.ok.0, present_within c.self.inside.boxes.items c.args.self.now c.args.slot c.self.view_is c.requires)

pub overflow_sub-self : goal.overflow_sub-self
overflow_sub-self c =
    let there = ap (λ (m : FinMap nat_cmp Bounds). contains_key m c.args.slot) c.self.view_is ∙ c.requires in
    omega (arith, c.self.invariant.1, some_there (map_of c.self.inside.boxes.items) c.args.slot there)

pub invariant_of-self : goal.invariant_of-self
invariant_of-self c =
    let boxes = c.self.inside.boxes.items in
    let l = present_within boxes c.args.self.now c.args.slot c.self.view_is c.requires in
    let present : contains_key (map_of boxes) c.args.slot ≡ true = ap (λ (m : FinMap nat_cmp Bounds). contains_key m c.args.slot) c.self.view_is ∙ c.requires in
    let fewer = ap len (map_take boxes c.args.slot l) ∙ one_fewer (map_of boxes) c.args.slot present in
    (length-set boxes c.args.slot None ∙ c.self.invariant.0, ap (λ n. n - 1) c.self.invariant.1 ∙ sym fewer)

pub returns : goal.returns
returns c =
    let boxes = c.self.inside.boxes.items in
    map_take boxes c.args.slot (present_within boxes c.args.self.now c.args.slot c.self.view_is c.requires) ∙ ap (λ m. remove m c.args.slot) c.self.view_is
