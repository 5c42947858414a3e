-- What is left to put and what was put make the whole.
use Rattle.std.proofs.Common.{◌≡◌, ◌≤◌, ◌-◌, ◌++◌, length, take, drop, map, slice_index}
use Rattle.grid_boxes.proofs.slot_columns.put_slots.Given as goal

abbrev pub invariant-items : goal.invariant-items
invariant-items l = record {
  within : l.at ≤ length l.out.items;
  whole : take l.at l.out.items ++ map (slice_index l.slots) (drop l.at l.out.items)
      ≡ take l.from l.fn.out.items ++ map (slice_index l.slots) (drop l.from l.fn.out.items);
}

abbrev pub decreases-items : goal.decreases-items
decreases-items l = length l.out.items - l.at
