-- The sides are those of the corners.
use Rattle.std.proofs.Common.{◌≡◌, ◌∙◌}
use Rattle.prepared_query.specs.Prepared.{pass_sides}
use Rattle.prepared_query.specs.Slope.{grown}
use Rattle.prepared_query.specs.PreparedCast.{grown_x, grown_y, grown_z}
use Rattle.prepared_query.proofs.cast_test.pass_grown.Goals as goal

pub returns : goal.returns
returns c =
    let x : c.grown_x-x.result ≡ grown_x c.args.moved.now c.args.body.now =
    c.grown_x-x.ensures ∙ (λ i. grown (c.lo.ensures.lo i).x (c.hi.ensures.hi i).x (c.lo-2.ensures.lo i).x (c.hi-2.ensures.hi i).x) in
    let y : c.grown_y-y.result ≡ grown_y c.args.moved.now c.args.body.now =
    c.grown_y-y.ensures ∙ (λ i. grown (c.lo-3.ensures.lo i).y (c.hi-3.ensures.hi i).y (c.lo-4.ensures.lo i).y (c.hi-4.ensures.hi i).y) in
    let z : c.grown_z-z.result ≡ grown_z c.args.moved.now c.args.body.now =
    c.grown_z-z.ensures ∙ (λ i. grown (c.lo-5.ensures.lo i).z (c.hi-5.ensures.hi i).z (c.lo-6.ensures.lo i).z (c.hi-6.ensures.hi i).z) in
    c.pass_sides.ensures ∙ (λ i. pass_sides c.args.slopes.now (x i) (y i) (z i))
