-- Each number of each axis is read back from a wide point.
use Rattle.std.proofs.Common.{ap, ◌∙◌}
use Rattle.ray_slabs.specs.Mirrored.{mirrored}
use Rattle.ray_slabs.specs.Vector.{Vector}
use Rattle.ray_slabs.proofs.Read.{read_back}
use Rattle.ray_slabs.proofs.ray.axes.Goals as goal

pub returns-clause-x : goal.returns-clause-x
returns-clause-x c =
    c.of_ray.ensures.slab ∙ (λ i. mirrored (record {
      from = read_back c.x.result c.x.ensures.reach c.x.ensures.x i;
      dir = read_back c.x-2.result c.x-2.ensures.reach c.x-2.ensures.x i;
      lo = read_back c.x-3.result c.x-3.ensures.reach (c.x-3.ensures.x ∙ ap (λ (p : Vector). p.x) c.lo-lo.ensures.lo) i;
      hi = read_back c.x-4.result c.x-4.ensures.reach (c.x-4.ensures.x ∙ ap (λ (p : Vector). p.x) c.hi-hi.ensures.hi) i;
    }))

pub returns-clause-y : goal.returns-clause-y
returns-clause-y c =
    c.of_ray-2.ensures.slab ∙ (λ i. mirrored (record {
      from = read_back c.y.result c.y.ensures.reach c.y.ensures.y i;
      dir = read_back c.y-2.result c.y-2.ensures.reach c.y-2.ensures.y i;
      lo = read_back c.y-3.result c.y-3.ensures.reach (c.y-3.ensures.y ∙ ap (λ (p : Vector). p.y) c.lo-lo.ensures.lo) i;
      hi = read_back c.y-4.result c.y-4.ensures.reach (c.y-4.ensures.y ∙ ap (λ (p : Vector). p.y) c.hi-hi.ensures.hi) i;
    }))

pub returns-clause-z : goal.returns-clause-z
returns-clause-z c =
    c.of_ray-3.ensures.slab ∙ (λ i. mirrored (record {
      from = read_back c.z.result c.z.ensures.reach c.z.ensures.z i;
      dir = read_back c.z-2.result c.z-2.ensures.reach c.z-2.ensures.z i;
      lo = read_back c.z-3.result c.z-3.ensures.reach (c.z-3.ensures.z ∙ ap (λ (p : Vector). p.z) c.lo-lo.ensures.lo) i;
      hi = read_back c.z-4.result c.z-4.ensures.reach (c.z-4.ensures.z ∙ ap (λ (p : Vector). p.z) c.hi-hi.ensures.hi) i;
    }))
