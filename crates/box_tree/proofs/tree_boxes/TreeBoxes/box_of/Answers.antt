-- What stands at the slot is what the map has.
use Rattle.std.proofs.Common.{arith, sym, ap, ◌∙◌, None}
use Rattle.std.proofs.lemmas.List.{get_or_read}
use Rattle.std.specs.FinMap.{get}
use Rattle.slot_lists.specs.SlotMap.{map_of}
use Rattle.slot_lists.specs.SlotMapLaws.{get_map}
use Rattle.fixed_box.proofs.Lists.{past}
use Rattle.box_tree.proofs.tree_boxes.TreeBoxes.box_of.Goals as goal

pub returns-then-slot-len-clause-value : goal.returns-then-slot-len-clause-value
returns-then-slot-len-clause-value c =
    let s = c.self.inside in
    get_or_read s.bodies.items c.args.slot c.index.result.now (omega (arith, c.if-slot-len.true, c.len.ensures)) c.index.ensures None
    ∙ sym (get_map s.bodies.items c.args.slot) ∙ ap (λ k. get (map_of k.bodies) c.args.slot) c.self.view_is

pub returns-else-slot-len-clause-value : goal.returns-else-slot-len-clause-value
returns-else-slot-len-clause-value c =
    let s = c.self.inside in
    sym (past s.bodies.items c.args.slot (omega (arith, c.if-slot-len.false, c.len.ensures)))
    ∙ sym (get_map s.bodies.items c.args.slot) ∙ ap (λ k. get (map_of k.bodies) c.args.slot) c.self.view_is
