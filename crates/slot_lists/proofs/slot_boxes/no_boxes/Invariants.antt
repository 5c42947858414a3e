-- No slot has a box so far.
use Rattle.std.proofs.Common.{◌≡◌, ℕ, length, slice_index_or, None}
use Rattle.slot_lists.proofs.slot_boxes.no_boxes.Given as goal

abbrev pub invariant-boxes : goal.invariant-boxes
invariant-boxes l = record {
  len : length l.boxes.items ≡ l._slot;
  none : (k : ℕ) → slice_index_or l.boxes.items k None ≡ None;
}
