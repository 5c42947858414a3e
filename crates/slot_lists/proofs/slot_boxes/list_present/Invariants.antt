-- What is there, with the slots among the rest.
use Rattle.std.proofs.Common.{◌≡◌, ◌≤◌, ◌++◌, ◌+◌, length, map}
use Rattle.fixed_box.specs.declared.TheConstants.{SLOTS}
use Rattle.slot_lists.specs.SlotMap.{entries_from}
use Rattle.slot_lists.proofs.slot_boxes.list_present.Given as goal

abbrev pub invariant-slots : goal.invariant-slots
invariant-slots l = record {
  found : l.slots.items ++ map (λ e. e.0) (entries_from l.slot l.rest) ≡ map (λ e. e.0) (entries_from 0 l.boxes);
  count : l.slot + length l.rest ≡ SLOTS;
  few : length l.slots.items ≤ l.slot;
}

abbrev pub decreases-slots : goal.decreases-slots
decreases-slots l = length l.rest
