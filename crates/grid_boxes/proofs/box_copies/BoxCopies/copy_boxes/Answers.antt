-- Each slot has a box, which stands beside it.
use Rattle.std.proofs.Common.{◌≡◌, ◌∙◌, ◌++◌, [], ap, sym, subst, filter_map, rules}
use Rattle.grid_boxes.specs.Buckets.{AreOf, boxed}
use Rattle.grid_boxes.proofs.BucketLemmas.{all_boxed}
use Rattle.grid_boxes.specs.Copies.{slots_of}
use Rattle.grid_boxes.proofs.box_copies.BoxCopies.copy_boxes.Goals as goal

pub returns : goal.returns
returns c =
    let boxes = c.args.boxes.now in
    let slots = c.args.slots.now in
    let none : c.clear.new.self.items ≡ [] = search rules in
    let is : c.push_filter_mapped.new.out.items ≡ filter_map (boxed boxes) slots =
    c.in_ok-push_filter_mapped.ensures.ok (boxed boxes) (λ slot r made. search rules) ∙ ap (λ l. l ++ filter_map (boxed boxes) slots) none in
    let all = all_boxed boxes slots c.requires in
    record { same = ap slots_of is ∙ all.0; right = subst (AreOf boxes) (sym is) all.1 }
