-- What stands at the slot is what the map has.
use Rattle.std.proofs.Common.{arith, sym, ◌∙◌, None, ap}
use Rattle.std.proofs.lemmas.List.{get_or_read}
use Rattle.std.specs.FinMap.{get}
use Rattle.slot_lists.specs.SlotMapLaws.{get_map}
use Rattle.fixed_box.proofs.Lists.{past}
use Rattle.slot_lists.proofs.slot_boxes.SlotBoxes.box_of.Goals as goal

pub returns-then-slot-len : goal.returns-then-slot-len
returns-then-slot-len c =
    sym (ap (λ m. get m c.args.slot) (sym c.self.view_is) ∙ get_map c.self.inside.boxes.items c.args.slot
    ∙ sym (get_or_read c.self.inside.boxes.items c.args.slot c.index.result.now (omega (arith, c.if-slot-len.true, c.len.ensures)) c.index.ensures None))

pub returns-else-slot-len : goal.returns-else-slot-len
returns-else-slot-len c =
    sym (ap (λ m. get m c.args.slot) (sym c.self.view_is) ∙ get_map c.self.inside.boxes.items c.args.slot
    ∙ past c.self.inside.boxes.items c.args.slot (omega (arith, c.if-slot-len.false, c.len.ensures)))
