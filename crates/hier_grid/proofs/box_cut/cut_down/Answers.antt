-- what lies in the box, and not before the place, ends from it on
use Rattle.std.proofs.Common.{SFits, to_z, of_z, ◌∙◌, subst, ap, arith, rules}
use Rattle.std.specs.Int.{w32}
use Rattle.std.proofs.lemmas.Int.{ints, to_z-of_z}
use Rattle.fixed_box.specs.Bounds.{Bounds}
use Rattle.hier_grid.specs.Visits.{IsCutInTwo, with_coordinate}
use Rattle.hier_grid.proofs.CutLemmas.{cut_down}
use Rattle.hier_grid.proofs.box_cut.cut_down.Goals as goal

pub returns : goal.returns
returns c =
    let near = c.in_ok-near.near in
    let left = c.in_ok-left.left in
    let axis = c.args.axis in
    let at = to_z w32 (of_z w32 c.args.at) in
    let fits : SFits w32 c.before-2.result = search rules in
    subst (λ (b : Bounds). IsCutInTwo b (near, left)) (λ i. record { lo = c.lo-lo.ensures.lo i; hi = c.hi-hi.ensures.hi i })
    (cut_down axis c.lo-lo.result c.hi-hi.result c.with_coordinate-2.result c.with_coordinate.result at near left (omega (arith, ints, c.if-coordinate-at.false, c.coordinate-else-at-coordinate.ensures))
    c.with_coordinate.ensures
    (c.with_coordinate-2.ensures ∙ ap (with_coordinate axis c.hi-hi.result) (to_z-of_z w32 c.before-2.result fits ∙ c.before-2.ensures))
    c.in_ok-near.ensures.1 c.in_ok-left.ensures.1)
