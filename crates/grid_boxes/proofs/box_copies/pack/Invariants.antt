-- The boxes before `at` are packed.
use Rattle.std.proofs.Common.{◌≡◌, ◌-◌, ◌*◌, ◌≤◌, length}
use Rattle.grid_boxes.specs.Copies.{ArePacked}
use Rattle.grid_boxes.proofs.box_copies.pack.Given as goal

abbrev pub invariant-packets : goal.invariant-packets
invariant-packets l = record {
  within : l.at ≤ length l.entries;
  even : l.at ≡ 8 * length l.packets.items;
  packed : ArePacked l.entries l.packets.items;
}

abbrev pub decreases-packets : goal.decreases-packets
decreases-packets l = length l.entries - l.at
