use Rattle.std.proofs.Common.{◌≡◌, ◌+◌, ◌-◌, length, take}
use Rattle.tree_search.specs.Descent.{Stands}
use Rattle.tree_search.specs.Visits.{visits_by_in}
use Rattle.tree_search.proofs.descent.walk.Given as goal

abbrev pub invariant-walk : goal.invariant-walk
invariant-walk g l =
    Stands l.nodes l.bodies (g.T.BoxTest.asks l.test) l.waiting l.fn.out.items l.out.items l.count
    × (take (length l.fn.out.items) l.out.items ≡ l.fn.out.items)

abbrev pub decreases-walk : goal.decreases-walk
decreases-walk g l = (visits_by_in l.nodes (g.T.BoxTest.asks l.test) - l.count) + length l.waiting
