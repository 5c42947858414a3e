-- The way fits 64 bits.
use Rattle.std.proofs.Common.{refl, ◌∙◌}
use Rattle.ray_slabs.specs.Mirrored.{mirrored}
use Rattle.ray_slabs.proofs.Read.{read_back, difference_back}
use Rattle.ray_slabs.proofs.mirrored_slab.MirroredSlab.of_seg.Goals as goal

pub returns : goal.returns
returns c =
    c.new.ensures ∙ (λ i. mirrored (record {
      from = read_back c.args.a c.requires.a refl i;
      dir = difference_back c.args.b c.args.a c.requires.b c.requires.a i;
      lo = read_back c.args.lo c.requires.lo refl i;
      hi = read_back c.args.hi c.requires.hi refl i;
    }))
