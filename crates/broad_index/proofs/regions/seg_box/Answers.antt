-- At the fraction at which the segment is in the box it lies between its two ends.
use Rattle.ray_slabs.specs.WideBounds.{widened_box}
use Rattle.broad_index.proofs.RegionLemmas.{seg_touches}
use Rattle.broad_index.proofs.regions.seg_box.Goals as goal

pub returns : goal.returns
returns c b near met =
    let a = c.args.seg.now.a in
    let e = c.args.seg.now.b in
    let n = c.nearest_point.ensures in
    let r = c.nearest_point-2.ensures in
    c.box_between.ensures b
    (seg_touches a e c.nearest_point.result c.nearest_point-2.result b n.x n.y n.z r.x r.y r.z near
    ((c.seg_law.ensures.fraction a e (widened_box b)).0 met))
