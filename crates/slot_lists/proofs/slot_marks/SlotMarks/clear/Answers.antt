-- There is a mark for each slot.
use Rattle.std.proofs.Common.{rules, ◌≡◌, ◌∙◌, ap, false, length, replicate}
use Rattle.slot_lists.proofs.slot_marks.SlotMarks.clear.Goals as goal

pub returns : goal.returns
returns c =
    let same : c.fill.new.self.items ≡ replicate (length (c.self.inside).marks.items) false = search rules in
    same ∙ ap (λ n. replicate n false) c.self.invariant
