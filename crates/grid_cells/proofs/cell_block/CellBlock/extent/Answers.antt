-- Each box of the cells lies between the two corners.
use Rattle.std.proofs.Common.{ℕ, ◌<◌, arith, subst, w32, to_z, of_z}
use Rattle.std.proofs.lemmas.Bool.{and_parts}
use Rattle.std.proofs.lemmas.Int.{ints}
use Rattle.std.specs.Prelude.{ℤ, pos, negsuc, ◌+ℤ◌, ◌-ℤ◌, ◌≤ℤ◌, ◌<ℤ◌, unsigned_abs}
use Rattle.fixed_box.specs.Bounds.{cell_side, level_of}
use Rattle.fixed_box.specs.declared.point.Point.{Point}
use Rattle.fixed_box.specs.Point.{is_at_most}
use Rattle.fixed_box.specs.Space.{space}
use Rattle.grid_cells.specs.Cells.{cell_at}
use Rattle.fixed_box.proofs.Corners.{axes}
use Rattle.grid_cells.proofs.CornerLemmas.{held_between}
use Rattle.fixed_box.proofs.Corners.{all_three}
use Rattle.fixed_box.proofs.Numbers.{test_of_le, le_of_test}
use Rattle.grid_cells.proofs.cell_block.CellBlock.extent.Goals as goal

short : (lo hi : ℤ) (k : ℕ) → unsigned_abs (hi -ℤ lo) < k → lo ≤ℤ hi → hi <ℤ (lo +ℤ pos k)
short lo hi k h o = omega (arith, ints)

pub returns : goal.returns
returns c b sized there =
    let inside = and_parts (is_at_most space.lo b.lo) (is_at_most b.hi space.hi) sized.inside in
    let lows = axes space.lo b.lo inside.0 in
    let highs = axes b.hi space.hi inside.1 in
    let order = axes b.lo b.hi sized.ordered in
    let z = λ (x : ℤ). to_z w32 (of_z w32 x) in
    let lo : Point = record { x = z c.low_face.result; y = z c.low_face-2.result; z = z c.low_face-3.result } in
    let hi : Point = record { x = z c.high_face.result; y = z c.high_face-2.result; z = z c.high_face-3.result } in
    held_between lo hi b c.new.result c.new.ensures sized.ordered
    (all_three lo b.lo
    (test_of_le lo.x b.lo.x (omega (
      arith,
      ints,
      c.low_face.ensures b.lo.x (le_of_test (negsuc 2147483647) b.lo.x lows.x)
          (omega (arith, ints, subst (λ n. c.args.self.now.from.x ≤ℤ cell_at n b.lo.x) there.level there.low_x)),
    )))
    (test_of_le lo.y b.lo.y (omega (
      arith,
      ints,
      c.low_face-2.ensures b.lo.y (le_of_test (negsuc 2147483647) b.lo.y lows.y)
          (omega (arith, ints, subst (λ n. c.args.self.now.from.y ≤ℤ cell_at n b.lo.y) there.level there.low_y)),
    )))
    (test_of_le lo.z b.lo.z (omega (
      arith,
      ints,
      c.low_face-3.ensures b.lo.z (le_of_test (negsuc 2147483647) b.lo.z lows.z)
          (omega (arith, ints, subst (λ n. c.args.self.now.from.z ≤ℤ cell_at n b.lo.z) there.level there.low_z)),
    ))))
    (all_three b.hi hi
    (test_of_le b.hi.x hi.x (omega (
      arith,
      ints,
      c.high_face.ensures b.lo.x b.hi.x (le_of_test b.hi.x (pos 2147483647) highs.x)
          (omega (arith, ints, subst (λ n. cell_at n b.lo.x <ℤ c.args.self.now.end.x) there.level there.high_x))
          (subst (λ n. b.hi.x <ℤ (b.lo.x +ℤ pos (cell_side n))) there.level
          (short b.lo.x b.hi.x (cell_side (level_of b)) (omega arith) (le_of_test b.lo.x b.hi.x order.x))),
    )))
    (test_of_le b.hi.y hi.y (omega (
      arith,
      ints,
      c.high_face-2.ensures b.lo.y b.hi.y (le_of_test b.hi.y (pos 2147483647) highs.y)
          (omega (arith, ints, subst (λ n. cell_at n b.lo.y <ℤ c.args.self.now.end.y) there.level there.high_y))
          (subst (λ n. b.hi.y <ℤ (b.lo.y +ℤ pos (cell_side n))) there.level
          (short b.lo.y b.hi.y (cell_side (level_of b)) (omega arith) (le_of_test b.lo.y b.hi.y order.y))),
    )))
    (test_of_le b.hi.z hi.z (omega (
      arith,
      ints,
      c.high_face-3.ensures b.lo.z b.hi.z (le_of_test b.hi.z (pos 2147483647) highs.z)
          (omega (arith, ints, subst (λ n. cell_at n b.lo.z <ℤ c.args.self.now.end.z) there.level there.high_z))
          (subst (λ n. b.hi.z <ℤ (b.lo.z +ℤ pos (cell_side n))) there.level
          (short b.lo.z b.hi.z (cell_side (level_of b)) (omega arith) (le_of_test b.lo.z b.hi.z order.z))),
    ))))
