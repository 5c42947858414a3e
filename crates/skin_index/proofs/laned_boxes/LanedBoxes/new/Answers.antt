-- No slot has a box, nor lanes of one.
use Rattle.std.proofs.Common.{◌∙◌, ap, replicate, length}
use Rattle.std.proofs.lemmas.List.{length-replicate}
use Rattle.fixed_box.specs.declared.TheConstants.{SLOTS}
use Rattle.skin_index.specs.Lanes.{absent}
use Rattle.skin_index.proofs.LaneLaws.{no_lanes}
use Rattle.skin_index.proofs.laned_boxes.LanedBoxes.new.Goals as goal

pub invariant_of-result : goal.invariant_of-result
invariant_of-result c =
    let items = c.in_ok-vec.ensures.items_if_clones_equal (λ _ e. e) ∙ ap (replicate SLOTS) c.absent.ensures in
    (ap length items ∙ length-replicate SLOTS absent, no_lanes c.in_ok-vec.field-0.items c.in_ok-new.field-0 items c.in_ok-new.ensures)
