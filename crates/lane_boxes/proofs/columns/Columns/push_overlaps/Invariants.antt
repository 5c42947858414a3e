-- What was appended, with what a plain filter keeps from `at` on, is the whole.
use Rattle.std.proofs.Common.{◌≡◌, ◌+◌, ◌-◌, ◌<◌, ◌≤◌, ◌++◌, drop, take, vec_len}
use Rattle.fixed_box.specs.Bounds.{meets}
use Rattle.lane_boxes.specs.Places.{places}
use Rattle.lane_boxes.proofs.columns.Columns.push_overlaps.Given as goal

abbrev pub invariant-hits : goal.invariant-hits
invariant-hits l = record {
  after : l.from ≤ l.at;
  near : l.at < l.to + 8;
  whole : l.out.items ++ places (meets l.body) l.at (drop l.at l.self.boxes) ≡ l.fn.out.items ++ places (meets l.body) l.from (drop l.from l.self.boxes);
  kept : take (vec_len l.fn.out) l.out.items ≡ l.fn.out.items;
}

abbrev pub decreases-hits : goal.decreases-hits
decreases-hits l = l.to - l.at
