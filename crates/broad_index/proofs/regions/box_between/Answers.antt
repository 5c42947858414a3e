-- The hull of the two points has what lies between them on each axis.
use Rattle.std.proofs.Common.{ap, ◌∙◌}
use Rattle.fixed_box.specs.Bounds.{Bounds, hull, meets}
use Rattle.broad_index.proofs.RegionLemmas.{touched_met}
use Rattle.broad_index.proofs.regions.box_between.Goals as goal

pub returns : goal.returns
returns c b t =
    ap (λ (a : Bounds). meets a b) (c.union.ensures.corners ∙ ap (λ (a : Bounds). hull a c.flat_box-2.result) c.flat_box.ensures.corners
    ∙ ap (λ (a : Bounds). hull (record { lo = c.args.p.now; hi = c.args.p.now }) a) c.flat_box-2.ensures.corners)
    ∙ touched_met c.args.p.now c.args.r.now b t
