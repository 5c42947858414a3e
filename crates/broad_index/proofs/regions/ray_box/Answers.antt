-- At the fraction at which the ray is in the box it lies between its start and the end of space.
use Rattle.ray_slabs.specs.WideBounds.{widened_box}
use Rattle.broad_index.proofs.RegionLemmas.{ray_touches}
use Rattle.broad_index.proofs.regions.ray_box.Goals as goal

pub returns : goal.returns
returns c b near met =
    let f = c.args.ray.now.from in
    let d = c.args.ray.now.dir in
    let n = c.nearest_point-start.ensures in
    let far = c.far_point.ensures in
    c.box_between.ensures b
    (ray_touches f d c.nearest_point-start.result c.far_point.result b n.x n.y n.z far.x far.y far.z near
    ((c.ray_law.ensures.fraction f d (widened_box b)).0 met))
