-- What doesn't lie in what is left was seen.
use Rattle.std.proofs.Common.{not}
use Rattle.fixed_box.specs.Bounds.{encloses}
use Rattle.hier_grid.proofs.VisitLemmas.{Saw}
use Rattle.hier_grid.proofs.visits.show_parts.Given as goal

abbrev pub invariant-parts : goal.invariant-parts
invariant-parts g l = Saw l.grid (g.V.Visitor.saw l.fn.visitor) (g.V.Visitor.saw l.visitor) (λ b. not (encloses l.body b))
    × g.V.Visitor.keeps l.fn.visitor l.visitor

abbrev pub decreases-parts : goal.decreases-parts
decreases-parts g l = l.parts
