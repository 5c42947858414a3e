-- what was told, and what is told of the lists that are left, is what is told of the whole ones
use Rattle.std.proofs.Common.{◌+◌, ◌++◌, length}
use Rattle.engine_tick.specs.Colliding.{without}
use Rattle.engine_tick.proofs.Differences.{Passes}
use Rattle.engine_tick.proofs.contacts.push_without.Given as goal

abbrev pub invariant-left : goal.invariant-left
invariant-left l = Passes l.out.items l.left l.right (l.fn.out.items ++ without l.others l.pairs)

abbrev pub decreases-left : goal.decreases-left
decreases-left l = length l.left + length l.right
