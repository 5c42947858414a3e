-- No slot has a box.
use Rattle.std.proofs.Common.{ap, sym, ◌∙◌}
use Rattle.std.specs.Ordering.{nat_cmp}
use Rattle.std.specs.FinMap.{len, len-empty}
use Rattle.fixed_box.specs.Bounds.{Bounds}
use Rattle.slot_lists.specs.SlotMapLaws.{map_blank}
use Rattle.slot_lists.proofs.slot_boxes.SlotBoxes.new.Goals as goal

pub invariant_of-result : goal.invariant_of-result
invariant_of-result c =
    let none = map_blank c.in_ok-no_boxes.field-0.items c.in_ok-no_boxes.ensures.none in
    (c.in_ok-no_boxes.ensures.len, sym (ap len none ∙ len-empty nat_cmp Bounds))

pub returns : goal.returns
returns c = map_blank c.in_ok-no_boxes.field-0.items c.in_ok-no_boxes.ensures.none
