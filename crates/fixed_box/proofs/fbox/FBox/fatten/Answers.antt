-- Corners that are moved outwards stay in order.
use Rattle.fixed_box.proofs.Corners.{at_most_chain}
use Rattle.fixed_box.proofs.fbox.FBox.fatten.Goals as goal

pub invariant_of-result : goal.invariant_of-result
invariant_of-result c =
    let b = c.self.inside in
    at_most_chain c.lowered_corner.result b.lo c.raised_corner.result c.lowered_corner.ensures.below
    (at_most_chain b.lo b.hi c.raised_corner.result c.self.invariant c.raised_corner.ensures.above)
