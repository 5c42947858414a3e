-- The mask is that of the boxes from `end` on.
use Rattle.std.proofs.Common.{◌≡◌, ◌≤◌, length, map, drop}
use Rattle.std.specs.Simd.Lanes.{mask_l}
use Rattle.fixed_box.specs.Bounds.{meets}
use Rattle.lane_boxes.proofs.columns.Columns.tail_mask.Given as goal

abbrev pub invariant-bits : goal.invariant-bits
invariant-bits l = record {
  after : l.at ≤ l.end;
  within : l.end ≤ length l.self.boxes;
  mask : l.mask ≡ mask_l (map (meets l.body) (drop l.end l.self.boxes));
}

abbrev pub decreases-bits : goal.decreases-bits
decreases-bits l = l.end
