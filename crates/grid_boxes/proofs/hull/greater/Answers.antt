-- On each axis the greater coordinate is one of the two.
use Rattle.std.proofs.Common.{arith}
use Rattle.std.proofs.lemmas.Int.{ints, clamps}
use Rattle.fixed_box.proofs.Corners.{axes}
use Rattle.fixed_box.proofs.Corners.{all_three}
use Rattle.fixed_box.proofs.Numbers.{test_of_le, le_of_test}
use Rattle.grid_boxes.proofs.hull.greater.Goals as goal

pub returns : goal.returns
returns c r a b =
    let p = axes c.args.p.now r a in
    let q = axes c.args.q.now r b in
    all_three _ r
    (test_of_le _ r.x (omega (arith, ints, clamps, c.max.ensures.value, le_of_test c.args.p.now.x r.x p.x, le_of_test c.args.q.now.x r.x q.x)))
    (test_of_le _ r.y (omega (arith, ints, clamps, c.max-2.ensures.value, le_of_test c.args.p.now.y r.y p.y, le_of_test c.args.q.now.y r.y q.y)))
    (test_of_le _ r.z (omega (arith, ints, clamps, c.max-3.ensures.value, le_of_test c.args.p.now.z r.z p.z, le_of_test c.args.q.now.z r.z q.z)))
