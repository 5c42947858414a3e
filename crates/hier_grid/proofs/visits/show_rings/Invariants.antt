-- What meets the ring inside was seen, and meets the next one.
use Rattle.std.proofs.Common.{◌≡◌, true}
use Rattle.fixed_box.specs.Bounds.{Bounds, meets}
use Rattle.grid_boxes.specs.Grid.{meets_part}
use Rattle.hier_grid.proofs.VisitLemmas.{Saw}
use Rattle.hier_grid.proofs.visits.show_rings.Given as goal

abbrev pub invariant-rings : goal.invariant-rings
invariant-rings g l = Saw l.grid (g.V.Visitor.saw l.fn.visitor) (g.V.Visitor.saw l.visitor) (meets_part l.inner)
    × (g.V.Visitor.keeps l.fn.visitor l.visitor × ((b : Bounds) → meets_part l.inner b ≡ true → meets l.ring b ≡ true))

abbrev pub decreases-rings : goal.decreases-rings
decreases-rings g l = l.rings
