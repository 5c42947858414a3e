-- The slot's leaf is read where the slot has a box, and no other slot has a fat box.
use Rattle.std.proofs.Common.{◌∙◌, ap, sym, get_or, None, is_some}
use Rattle.std.specs.FinMap.{get}
use Rattle.slot_lists.specs.SlotMap.{map_of}
use Rattle.slot_lists.specs.SlotMapLaws.{get_map}
use Rattle.box_tree.proofs.Fats.{none_there}
use Rattle.box_tree.proofs.tree_boxes.TreeBoxes.fat_of.Goals as goal

pub returns-then-is_some-clause-value : goal.returns-then-is_some-clause-value
returns-then-is_some-clause-value c =
    sym c.fat_of.ensures ∙ sym (get_map (c.self.inside).leaves.fats c.args.slot) ∙ ap (λ k. get (map_of k.fats) c.args.slot) c.self.view_is

pub returns-else-is_some-clause-value : goal.returns-else-is_some-clause-value
returns-else-is_some-clause-value c =
    let s = c.self.inside in
    let fat = c.self.invariant.1 in
    sym (none_there (get_or s.leaves.fats c.args.slot None) (fat.same c.args.slot
    ∙ (ap (λ k. is_some (get_or k.bodies c.args.slot None)) c.self.view_is
    ∙ (ap is_some (sym c.box_of.ensures.listed) ∙ (sym c.is_some.ensures ∙ c.if-is_some.false)))))
    ∙ sym (get_map s.leaves.fats c.args.slot) ∙ ap (λ k. get (map_of k.fats) c.args.slot) c.self.view_is
