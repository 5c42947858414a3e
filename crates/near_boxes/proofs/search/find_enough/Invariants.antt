-- The margins grow.
use Rattle.std.proofs.Common.{◌<◌, ◌-◌}
use Rattle.near_boxes.proofs.search.find_enough.Given as goal

abbrev pub invariant-margins : goal.invariant-margins
invariant-margins g l = 0 < l.margin

abbrev pub decreases-margins : goal.decreases-margins
decreases-margins g l = 4294967296 - l.margin
