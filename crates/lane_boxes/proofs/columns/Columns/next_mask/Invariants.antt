-- No box before `at` overlaps.
use Rattle.std.proofs.Common.{◌≡◌, ◌+◌, ◌-◌, ◌<◌, ◌≤◌, length, drop}
use Rattle.fixed_box.specs.Bounds.{meets}
use Rattle.lane_boxes.specs.Places.{places}
use Rattle.lane_boxes.proofs.columns.Columns.next_mask.Given as goal

abbrev pub invariant-eights : goal.invariant-eights
invariant-eights l = record {
  later : l.from ≤ l.at;
  within : l.at ≤ length l.self.boxes;
  near : l.at < l.to + 8;
  passed : places (meets l.body) l.from (drop l.from l.self.boxes) ≡ places (meets l.body) l.at (drop l.at l.self.boxes);
}

abbrev pub decreases-eights : goal.decreases-eights
decreases-eights l = l.last - l.at
