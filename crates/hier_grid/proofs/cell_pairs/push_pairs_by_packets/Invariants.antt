-- The boxes before `at` are done.
use Rattle.std.proofs.Common.{◌≡◌, ◌-◌, ◌≤◌, ◌++◌}
use Rattle.grid_boxes.specs.Copies.{stretch}
use Rattle.hier_grid.specs.Listing.{met_pairs}
use Rattle.hier_grid.proofs.cell_pairs.push_pairs_by_packets.Given as goal

abbrev pub invariant-packets : goal.invariant-packets
invariant-packets l = record {
  after : l.from ≤ l.at;
  before : l.at ≤ l.to;
  done : l.pairs.items ≡ l.fn.pairs.items ++ met_pairs l.own l.any (stretch l.from l.at l.copies);
}

abbrev pub decreases-packets : goal.decreases-packets
decreases-packets l = l.to - l.at
