-- What is kept is the number of the map's entries.
use Rattle.std.proofs.Common.{ℕ, ap, sym, ◌∙◌}
use Rattle.std.proofs.lemmas.List.{length-map}
use Rattle.std.specs.Ordering.{nat_cmp}
use Rattle.std.specs.FinMap.{FinMap, entries, len, len-entries}
use Rattle.fixed_box.specs.Bounds.{Bounds}
use Rattle.slot_lists.proofs.slot_boxes.SlotBoxes.len.Goals as goal

pub returns : goal.returns
returns c =
    let kept = c.self.invariant.1 ∙ ap (λ (m : FinMap nat_cmp Bounds). len m) c.self.view_is in
    record {
      len = kept;
      present = kept ∙ len-entries c.args.self.now ∙ sym (length-map (entries c.args.self.now) (λ (e : ℕ × Bounds). e.0));
    }
