-- Those from the place on don't come before it.
use Rattle.std.proofs.Common.{◌≡◌, ◌≤◌, ◌++◌, take, drop, length}
use Rattle.ordered_lists.specs.Ordered.{placed}
use Rattle.near_boxes.specs.Nearest.{near_cmp}
use Rattle.near_boxes.proofs.descent.place_of.Given as goal

abbrev pub invariant-places : goal.invariant-places
invariant-places l = (l.at ≤ length l.nears) × (placed near_cmp l.near l.nears ≡ placed near_cmp l.near (take l.at l.nears) ++ drop l.at l.nears)

abbrev pub decreases-places : goal.decreases-places
decreases-places l = l.at
