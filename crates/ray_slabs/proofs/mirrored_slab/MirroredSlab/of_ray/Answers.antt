-- A direction in reach goes no farther.
use Rattle.std.proofs.Common.{refl, sym, subst, pos, ◌^◌, ◌≤ℤ◌, to_z, of_z, w64, IsTrue}
use Rattle.ray_slabs.specs.Mirrored.{MirroredSlab}
use Rattle.ray_slabs.specs.Vector.{is_in_reach}
use Rattle.ray_slabs.proofs.Read.{read_back, way_short}
use Rattle.ray_slabs.proofs.mirrored_slab.MirroredSlab.of_ray.Goals as goal

pub returns-clause-short : goal.returns-clause-short
returns-clause-short c =
    subst (λ (a : MirroredSlab). a.way ≤ℤ pos (2 ^ 34)) (sym c.new.ensures)
    (way_short (record {
      from = to_z w64 (of_z w64 c.args.from);
      dir = to_z w64 (of_z w64 c.args.dir);
      lo = to_z w64 (of_z w64 c.args.lo);
      hi = to_z w64 (of_z w64 c.args.hi);
    })
    (subst (λ d. IsTrue (is_in_reach d)) (sym (read_back c.args.dir c.requires.dir refl)) c.requires.dir))
