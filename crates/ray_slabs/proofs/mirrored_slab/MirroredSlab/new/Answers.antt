-- The differences fit 64 bits, so that the numbers are those over ℤ.
use Rattle.std.proofs.Common.{◌≡◌, sym, ◌∙◌, pos, ◌-ℤ◌, neg_ℤ, to_z, of_z, w64, arith}
use Rattle.std.proofs.lemmas.Int.{ints}
use Rattle.ray_slabs.proofs.Read.{rises, falls}
use Rattle.ray_slabs.proofs.mirrored_slab.MirroredSlab.new.Goals as goal

pub returns-then-dir-ge0 : goal.returns-then-dir-ge0
returns-then-dir-ge0 c =
    let way : to_z w64 (of_z w64 c.args.dir) ≡ c.args.dir = omega (arith, ints) in
    let near : to_z w64 (of_z w64 (to_z w64 (of_z w64 c.args.lo) -ℤ to_z w64 (of_z w64 c.args.from))) ≡ c.args.lo -ℤ c.args.from = omega (arith, ints) in
    let far : to_z w64 (of_z w64 (to_z w64 (of_z w64 c.args.hi) -ℤ to_z w64 (of_z w64 c.args.from))) ≡ c.args.hi -ℤ c.args.from = omega (arith, ints) in
    (λ i. record { way = way i; near = near i; far = far i })
    ∙ sym (rises (record { from = c.args.from; dir = c.args.dir; lo = c.args.lo; hi = c.args.hi }) c.args.dir (omega (arith, ints)))

pub returns-else-dir-ge0 : goal.returns-else-dir-ge0
returns-else-dir-ge0 c =
    let way : to_z w64 (of_z w64 (pos 0 -ℤ to_z w64 (of_z w64 c.args.dir))) ≡ neg_ℤ c.args.dir = omega (arith, ints) in
    let near : to_z w64 (of_z w64 (to_z w64 (of_z w64 c.args.from) -ℤ to_z w64 (of_z w64 c.args.hi))) ≡ c.args.from -ℤ c.args.hi = omega (arith, ints) in
    let far : to_z w64 (of_z w64 (to_z w64 (of_z w64 c.args.from) -ℤ to_z w64 (of_z w64 c.args.lo))) ≡ c.args.from -ℤ c.args.lo = omega (arith, ints) in
    (λ i. record { way = way i; near = near i; far = far i })
    ∙ sym (falls (record { from = c.args.from; dir = c.args.dir; lo = c.args.lo; hi = c.args.hi }) c.args.dir (omega (arith, ints)))
