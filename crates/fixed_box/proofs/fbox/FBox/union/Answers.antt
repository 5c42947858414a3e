-- The corners of a hull are in order, since each is beyond those of a box that is.
use Rattle.std.proofs.Common.{◌≡◌, true, subst, sym}
use Rattle.std.proofs.lemmas.Bool.{and_parts, and_from}
use Rattle.fixed_box.specs.Point.{is_at_most}
use Rattle.fixed_box.specs.Bounds.{Bounds, encloses}
use Rattle.fixed_box.proofs.Corners.{at_most_chain}
use Rattle.fixed_box.proofs.fbox.FBox.union.Goals as goal

pub invariant_of-result : goal.invariant_of-result
invariant_of-result c =
    let b = c.self.inside in
    at_most_chain c.lower_corner.result b.lo c.upper_corner.result c.lower_corner.ensures.left
    (at_most_chain b.lo b.hi c.upper_corner.result c.self.invariant c.upper_corner.ensures.left)

pub returns-clause-least : goal.returns-clause-least
returns-clause-least c b this that =
    let P : Bounds → Type 0 = λ v. encloses b v ≡ true in
    let first = and_parts (is_at_most b.lo c.self.inside.lo) (is_at_most c.self.inside.hi b.hi) (subst P (sym c.self.view_is) this) in
    let second = and_parts (is_at_most b.lo c.other.inside.lo) (is_at_most c.other.inside.hi b.hi) (subst P (sym c.other.view_is) that) in
    and_from (is_at_most b.lo c.lower_corner.result) (is_at_most c.upper_corner.result b.hi) (c.lower_corner.ensures.greatest b.lo first.0 second.0)
    (c.upper_corner.ensures.least b.hi first.1 second.1)
