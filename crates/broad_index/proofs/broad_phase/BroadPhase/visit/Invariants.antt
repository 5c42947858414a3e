-- What was shown, with the rest, is all that was found.
use Rattle.std.proofs.Common.{length}
use Rattle.broad_index.specs.Showing.{HasShown}
use Rattle.broad_index.proofs.broad_phase.BroadPhase.visit.Given as goal

abbrev pub invariant-slots : goal.invariant-slots
invariant-slots g l = HasShown (g.Self.BroadPhase.bodies l.self) (g.V.Visitor.saw l.initial.visitor) (g.V.Visitor.saw l.visitor) l.initial.rest l.rest
    × g.V.Visitor.keeps l.initial.visitor l.visitor

abbrev pub decreases-slots : goal.decreases-slots
decreases-slots g l = length l.rest
