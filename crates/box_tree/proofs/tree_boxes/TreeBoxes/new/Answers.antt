-- There is no box, and no fat box.
use Rattle.slot_lists.specs.SlotMapLaws.{map_blank}
use Rattle.box_tree.proofs.Fats.{fat_none}
use Rattle.box_tree.proofs.tree_boxes.TreeBoxes.new.Goals as goal

pub invariant_of-result : goal.invariant_of-result
invariant_of-result c = (
  c.in_ok-no_boxes.ensures.len,
  fat_none c.in_ok-new.field-0.fats c.in_ok-no_boxes.field-0.items c.in_ok-new.ensures.fats c.in_ok-no_boxes.ensures.none,
)

pub returns-clause-bodies : goal.returns-clause-bodies
returns-clause-bodies c = map_blank c.in_ok-no_boxes.field-0.items c.in_ok-no_boxes.ensures.none

pub returns-clause-fats : goal.returns-clause-fats
returns-clause-fats c = map_blank c.in_ok-new.field-0.fats c.in_ok-new.ensures.fats
