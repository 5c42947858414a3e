-- A write to an empty place is an insertion, and one slot more is present.
use Rattle.std.proofs.Common.{◌≡◌, ◌+◌, ◌<◌, length, false, arith, sym, ◌∙◌, ap}
use Rattle.std.proofs.lemmas.List.{length-set}
use Rattle.std.specs.Ordering.{nat_cmp}
use Rattle.std.specs.FinMap.{FinMap, contains_key, insert, len}
use Rattle.fixed_box.specs.Bounds.{Bounds}
use Rattle.std.proofs.Common.{Some}
use Rattle.slot_lists.specs.SlotMap.{map_of}
use Rattle.slot_lists.specs.SlotMapLaws.{map_put}
use Rattle.slot_lists.proofs.SlotCounts.{counted_few, one_more}
use Rattle.slot_lists.proofs.slot_boxes.SlotBoxes.put.Goals as goal

pub overflow_add-self : goal.overflow_add-self
overflow_add-self c = record { fits = omega (arith, c.self.invariant.0, c.self.invariant.1, counted_few c.self.inside.boxes.items) }

pub invariant_of-self : goal.invariant_of-self
invariant_of-self c =
    let boxes = c.self.inside.boxes.items in
    let l : c.args.slot < length boxes = omega (arith, c.self.invariant.0, c.requires.small) in
    let absent : contains_key (map_of boxes) c.args.slot ≡ false = ap (λ (m : FinMap nat_cmp Bounds). contains_key m c.args.slot) c.self.view_is
    ∙ c.requires.absent in
    let more = ap len (map_put boxes c.args.slot c.args.body l) ∙ one_more (map_of boxes) c.args.slot c.args.body absent in
    (length-set boxes c.args.slot (Some c.args.body) ∙ c.self.invariant.0, ap (λ n. n + 1) c.self.invariant.1 ∙ sym more)

pub returns : goal.returns
returns c =
    map_put c.self.inside.boxes.items c.args.slot c.args.body (omega (arith, c.self.invariant.0, c.requires.small))
    ∙ ap (λ m. insert m c.args.slot c.args.body) c.self.view_is
