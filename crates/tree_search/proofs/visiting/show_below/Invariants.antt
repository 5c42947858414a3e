-- What was shown, with what stands below the waiting nodes, is all. Each step leaves them lighter.
use Rattle.tree_search.specs.Visiting.{Shows, weights}
use Rattle.tree_search.proofs.visiting.show_below.Given as goal

abbrev pub invariant-show : goal.invariant-show
invariant-show g l = Shows l.nodes l.bodies (g.V.Visitor.saw l.initial.visitor) (g.V.Visitor.saw l.visitor) l.waiting × g.V.Visitor.keeps l.initial.visitor l.visitor

abbrev pub decreases-show : goal.decreases-show
decreases-show g l = weights l.waiting
