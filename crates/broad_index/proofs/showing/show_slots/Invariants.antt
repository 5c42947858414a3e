-- What was shown, with the rest, is all.
use Rattle.std.proofs.Common.{length}
use Rattle.broad_index.specs.Showing.{HasShown}
use Rattle.broad_index.proofs.showing.show_slots.Given as goal

abbrev pub invariant-slots : goal.invariant-slots
invariant-slots g l = HasShown l.boxes (g.V.Visitor.saw l.initial.visitor) (g.V.Visitor.saw l.visitor) l.initial.rest l.rest
    × g.V.Visitor.keeps l.initial.visitor l.visitor

abbrev pub decreases-slots : goal.decreases-slots
decreases-slots g l = length l.rest
