-- On each axis the lesser coordinate is one of the two.
use Rattle.std.proofs.Common.{arith}
use Rattle.std.proofs.lemmas.Int.{ints, clamps}
use Rattle.fixed_box.proofs.Corners.{axes}
use Rattle.fixed_box.proofs.Corners.{all_three}
use Rattle.fixed_box.proofs.Numbers.{test_of_le, le_of_test}
use Rattle.grid_boxes.proofs.hull.lesser.Goals as goal

pub returns : goal.returns
returns c r a b =
    let p = axes r c.args.p.now a in
    let q = axes r c.args.q.now b in
    all_three r _
    (test_of_le r.x _ (omega (arith, ints, clamps, c.min.ensures.value, le_of_test r.x c.args.p.now.x p.x, le_of_test r.x c.args.q.now.x q.x)))
    (test_of_le r.y _ (omega (arith, ints, clamps, c.min-2.ensures.value, le_of_test r.y c.args.p.now.y p.y, le_of_test r.y c.args.q.now.y q.y)))
    (test_of_le r.z _ (omega (arith, ints, clamps, c.min-3.ensures.value, le_of_test r.z c.args.p.now.z p.z, le_of_test r.z c.args.q.now.z q.z)))
