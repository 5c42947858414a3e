-- A write over a box is an insertion, and as many slots are present.
use Rattle.std.proofs.Common.{◌≡◌, true, arith, sym, ◌∙◌, ap, Some}
use Rattle.std.proofs.lemmas.List.{length-set}
use Rattle.std.specs.Ordering.{nat_cmp}
use Rattle.std.specs.FinMap.{FinMap, contains_key, insert, len}
use Rattle.fixed_box.specs.Bounds.{Bounds}
use Rattle.slot_lists.specs.SlotMap.{map_of}
use Rattle.slot_lists.specs.SlotMapLaws.{map_put}
use Rattle.slot_lists.proofs.SlotCounts.{as_before, present_within}
use Rattle.slot_lists.proofs.slot_boxes.SlotBoxes.set.Goals as goal

pub index_mut-requires : goal.index_mut-requires
index_mut-requires c = omega (arith, c.self.inside.boxes.ok.0, present_within c.self.inside.boxes.items c.args.self.now c.args.slot c.self.view_is c.requires)

pub invariant_of-self : goal.invariant_of-self
invariant_of-self c =
    let boxes = c.self.inside.boxes.items in
    let l = present_within boxes c.args.self.now c.args.slot c.self.view_is c.requires in
    let present : contains_key (map_of boxes) c.args.slot ≡ true = ap (λ (m : FinMap nat_cmp Bounds). contains_key m c.args.slot) c.self.view_is ∙ c.requires in
    let same = ap len (map_put boxes c.args.slot c.args.body l) ∙ as_before (map_of boxes) c.args.slot c.args.body present in
    (length-set boxes c.args.slot (Some c.args.body) ∙ c.self.invariant.0, c.self.invariant.1 ∙ sym same)

pub returns : goal.returns
returns c =
    let boxes = c.self.inside.boxes.items in
    map_put boxes c.args.slot c.args.body (present_within boxes c.args.self.now c.args.slot c.self.view_is c.requires)
    ∙ ap (λ m. insert m c.args.slot c.args.body) c.self.view_is
