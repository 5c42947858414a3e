-- What was appended, with the bits that are left, is the whole.
use Rattle.std.proofs.Common.{◌≡◌, ◌+◌, ◌-◌, ◌<◌, ◌≤◌, ◌^◌, ◌++◌, All, take, vec_len}
use Rattle.lane_boxes.specs.Bits.{set_places}
use Rattle.lane_boxes.proofs.places.push_places.Given as goal

abbrev pub invariant-bits : goal.invariant-bits
invariant-bits l = record {
  after : l.fn.from ≤ l.at;
  left : l.at ≤ l.fn.from + 8;
  low : l.rest < 2 ^ (l.fn.from + 8 - l.at);
  small : All (λ k. k < 2 ^ 32) (set_places (l.fn.from + 8 - l.at) l.at l.rest);
  whole : l.out.items ++ set_places (l.fn.from + 8 - l.at) l.at l.rest ≡ l.fn.out.items ++ set_places 8 l.fn.from l.fn.mask;
  kept : take (vec_len l.fn.out) l.out.items ≡ l.fn.out.items;
}

abbrev pub decreases-bits : goal.decreases-bits
decreases-bits l = l.rest
