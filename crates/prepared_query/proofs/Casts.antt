-- A box meets a cast where it meets its hull, and the line of the lower corner passes through it, grown, in each view.
use Rattle.std.proofs.Common.{◌≡◌, ℕ, Bool, sym, ◌∙◌, true, false, ◌&&◌, ℤ, pos, negsuc, suc, ◌+ℤ◌, ◌-ℤ◌, ◌≤ℤ◌, int_le, IsTrue, arith}
use Rattle.std.proofs.lemmas.Bool.{and_parts}
use Rattle.std.proofs.lemmas.Int.{ints, clamps}
use Rattle.std.specs.Int.{int_min, int_max, saturate_signed, w32}
use Rattle.fixed_box.specs.declared.point.Point.{Point}
use Rattle.fixed_box.specs.Bounds.{Bounds, meets}
use Rattle.fixed_box.specs.Point.{is_at_most}
use Rattle.fixed_box.specs.Space.{space}
use Rattle.fixed_box.proofs.Bools.{same_bool, and_comm}
use Rattle.fixed_box.proofs.Numbers.{le_of_test, test_of_le, stopped_low, stopped_high}
use Rattle.ray_slabs.specs.Crossing.{Slab, in_seg}
use Rattle.ray_slabs.specs.Mirrored.{mirrored, on_x, on_y, on_z, all_overlap, is_on_way, meet_on_way}
use Rattle.ray_slabs.specs.ProductLaws.{same_le}
use Rattle.ray_slabs.specs.Vector.{Vector, widened, displacement}
use Rattle.ray_slabs.specs.WideBounds.{WideBounds}
use Rattle.ray_slabs.specs.Vector as vector
use Rattle.box_cast.specs.declared.cast.Cast.{Cast}
use Rattle.box_cast.specs.Cast.{in_cast}
use Rattle.box_cast.specs.Hull.{cast_hull}
use Rattle.box_cast.specs.Widening.{origin, widened_by}
use Rattle.prepared_query.specs.Slope.{course, side, grown, passes}
use Rattle.prepared_query.specs.Prepared.{slopes_of}
use Rattle.prepared_query.specs.PreparedCast.{pass_grown, IsPreparedCast}
use Rattle.prepared_query.specs.declared.slopes.Slopes.{Slopes}
use Rattle.prepared_query.proofs.Around.{to_end, down_to_end}
use Rattle.prepared_query.proofs.Lines.{by_axes}
use Rattle.prepared_query.proofs.Passes.{passes_is}

-- what the laws of segments and casts say
pub record CastLaws : Type 0 where
  pub segs : (a c : Vector) (b : WideBounds) → IsTrue (vector.is_at_most b.lo b.hi)
      → meet_on_way (on_x a (displacement a c) b) (on_y a (displacement a c) b) (on_z a (displacement a c) b) ≡ in_seg a c b
  pub slides : (c : Bounds) (v : Point) (b : Bounds) → in_cast c v b ≡ in_seg origin (widened v) (widened_by b c)
  pub ordered : (b c : Bounds) → IsTrue (is_at_most b.lo b.hi) → IsTrue (is_at_most c.lo c.hi)
      → IsTrue (vector.is_at_most (widened_by b c).lo (widened_by b c).hi)

-- ---- the hull, axis by axis

-- the interval that the moved side sweeps over meets another
abbrev sweeps : ℤ → ℤ → ℤ → ℤ → ℤ → Bool
sweeps near far way lo hi = int_le (int_min near (saturate_signed w32 (near +ℤ way))) hi && int_le lo (int_max far (saturate_signed w32 (far +ℤ way)))

abbrev axis_of : ℤ → ℤ → ℤ → ℤ → ℤ → Slab
axis_of near far way lo hi = record { from = pos 0; dir = way; lo = lo -ℤ far; hi = hi -ℤ near }

-- the end of the way is stopped at the end of space, where no box goes on
higher_end : (far : ℤ) (n : ℕ) (lo : ℤ) → negsuc 2147483647 ≤ℤ far → lo ≤ℤ pos 2147483647
    → int_le lo (int_max far (saturate_signed w32 (far +ℤ pos n))) ≡ int_le lo (saturate_signed w32 (far +ℤ pos n))
higher_end far n lo low high =
    let end : ℤ = saturate_signed w32 (far +ℤ pos n) in
    let least : end ≤ℤ (far +ℤ pos n) = stopped_low (far +ℤ pos n) (far +ℤ pos n) (omega (arith, ints)) (omega (arith, ints)) in
    same_bool (int_le lo (int_max far end)) (int_le lo end)
    (λ h. test_of_le lo end (stopped_high (far +ℤ pos n) lo (omega (arith, ints, clamps, le_of_test lo (int_max far end) h, least)) high))
    (λ h. test_of_le lo (int_max far end) (omega (arith, ints, clamps, le_of_test lo end h)))

lower_end : (near : ℤ) (n : ℕ) (hi : ℤ) → near ≤ℤ pos 2147483647 → negsuc 2147483647 ≤ℤ hi
    → int_le (int_min near (saturate_signed w32 (near +ℤ negsuc n))) hi ≡ int_le (saturate_signed w32 (near +ℤ negsuc n)) hi
lower_end near n hi high low =
    let end : ℤ = saturate_signed w32 (near +ℤ negsuc n) in
    let most : (near +ℤ negsuc n) ≤ℤ end = stopped_high (near +ℤ negsuc n) (near +ℤ negsuc n) (omega (arith, ints)) (omega (arith, ints)) in
    same_bool (int_le (int_min near end) hi) (int_le end hi)
    (λ h. test_of_le end hi (stopped_low (near +ℤ negsuc n) hi (omega (arith, ints, clamps, le_of_test (int_min near end) hi h, most)) low))
    (λ h. test_of_le (int_min near end) hi (omega (arith, ints, clamps, le_of_test end hi h)))

-- the corners of a box in space
record Ends (b : Bounds) : Type 0 where
  lo_x : b.lo.x ≤ℤ pos 2147483647
  lo_y : b.lo.y ≤ℤ pos 2147483647
  lo_z : b.lo.z ≤ℤ pos 2147483647
  hi_x : negsuc 2147483647 ≤ℤ b.hi.x
  hi_y : negsuc 2147483647 ≤ℤ b.hi.y
  hi_z : negsuc 2147483647 ≤ℤ b.hi.z

ends : (b : Bounds) → IsTrue (meets space b) → Ends b
ends b in_space =
    let parts = and_parts (is_at_most space.lo b.hi) (is_at_most b.lo space.hi) in_space in
    let low = and_parts (int_le space.lo.x b.hi.x && int_le space.lo.y b.hi.y) (int_le space.lo.z b.hi.z) parts.0 in
    let low_xy = and_parts (int_le space.lo.x b.hi.x) (int_le space.lo.y b.hi.y) low.0 in
    let high = and_parts (int_le b.lo.x space.hi.x && int_le b.lo.y space.hi.y) (int_le b.lo.z space.hi.z) parts.1 in
    let high_xy = and_parts (int_le b.lo.x space.hi.x) (int_le b.lo.y space.hi.y) high.0 in
    record {
      lo_x = le_of_test b.lo.x (pos 2147483647) high_xy.0;
      lo_y = le_of_test b.lo.y (pos 2147483647) high_xy.1;
      lo_z = le_of_test b.lo.z (pos 2147483647) high.1;
      hi_x = le_of_test (negsuc 2147483647) b.hi.x low_xy.0;
      hi_y = le_of_test (negsuc 2147483647) b.hi.y low_xy.1;
      hi_z = le_of_test (negsuc 2147483647) b.hi.z low.1;
    }

swept : (near far way lo hi : ℤ) → near ≤ℤ pos 2147483647 → negsuc 2147483647 ≤ℤ far → lo ≤ℤ pos 2147483647 → negsuc 2147483647 ≤ℤ hi
    → sweeps near far way lo hi ≡ is_on_way (mirrored (axis_of near far way lo hi))
swept near far (pos n) lo hi nh fl lh hl =
    let end_low : near ≤ℤ saturate_signed w32 (near +ℤ pos n) = stopped_high (near +ℤ pos n) near (omega (arith, ints)) nh in
    let least : int_min near (saturate_signed w32 (near +ℤ pos n)) ≡ near = omega (arith, ints, clamps) in
    let most : int_le lo (int_max far (saturate_signed w32 (far +ℤ pos n))) ≡ int_le lo (saturate_signed w32 (far +ℤ pos n)) =
    higher_end far n lo fl lh in
    (λ i. int_le (least i) hi && most i)
    ∙ (λ i. same_le near hi (pos 0) ((hi -ℤ near) -ℤ pos 0) (omega (arith, ints)) i && to_end far (pos n) lo (omega (arith, ints)) lh i)
    ∙ (λ i. int_le (pos 0) ((hi -ℤ near) -ℤ pos 0) && same_le (lo -ℤ far) (pos n) ((lo -ℤ far) -ℤ pos 0) (pos n) (omega (arith, ints)) i)
swept near far (negsuc n) lo hi nh fl lh hl =
    let low : int_le (int_min near (saturate_signed w32 (near +ℤ negsuc n))) hi ≡ int_le (saturate_signed w32 (near +ℤ negsuc n)) hi =
    lower_end near n hi nh hl in
    let end_high : saturate_signed w32 (far +ℤ negsuc n) ≤ℤ far = stopped_low (far +ℤ negsuc n) far (omega (arith, ints)) fl in
    let most : int_max far (saturate_signed w32 (far +ℤ negsuc n)) ≡ far = omega (arith, ints, clamps) in
    (λ i. low i && int_le lo (most i))
    ∙ and_comm (int_le (saturate_signed w32 (near +ℤ negsuc n)) hi) (int_le lo far)
    ∙ (λ i. same_le lo far (pos 0) (pos 0 -ℤ (lo -ℤ far)) (omega (arith, ints)) i && down_to_end near (negsuc n) hi (omega (arith, ints)) hl i)
    ∙ (λ i. int_le (pos 0) (pos 0 -ℤ (lo -ℤ far)) && same_le (near -ℤ hi) (pos (suc n)) (pos 0 -ℤ (hi -ℤ near)) (pos (suc n)) (omega (arith, ints)) i)

around : (c : Bounds) (v : Point) (b : Bounds) → IsTrue (meets space c) → IsTrue (meets space b) → meets (cast_hull c v) b
    ≡ (is_on_way (on_x origin (widened v) (widened_by b c)) && is_on_way (on_y origin (widened v) (widened_by b c))
    && is_on_way (on_z origin (widened v) (widened_by b c)))
around c v b c_in b_in =
    let ch : Ends c = ends c c_in in
    let bh : Ends b = ends b b_in in
    let least : Point = (cast_hull c v).lo in
    let most : Point = (cast_hull c v).hi in
    let x : sweeps c.lo.x c.hi.x v.x b.lo.x b.hi.x ≡ is_on_way (on_x origin (widened v) (widened_by b c)) =
    swept c.lo.x c.hi.x v.x b.lo.x b.hi.x ch.lo_x ch.hi_x bh.lo_x bh.hi_x in
    let y : sweeps c.lo.y c.hi.y v.y b.lo.y b.hi.y ≡ is_on_way (on_y origin (widened v) (widened_by b c)) =
    swept c.lo.y c.hi.y v.y b.lo.y b.hi.y ch.lo_y ch.hi_y bh.lo_y bh.hi_y in
    let z : sweeps c.lo.z c.hi.z v.z b.lo.z b.hi.z ≡ is_on_way (on_z origin (widened v) (widened_by b c)) =
    swept c.lo.z c.hi.z v.z b.lo.z b.hi.z ch.lo_z ch.hi_z bh.lo_z bh.hi_z in
    by_axes (int_le least.x b.hi.x) (int_le least.y b.hi.y) (int_le least.z b.hi.z) (int_le b.lo.x most.x) (int_le b.lo.y most.y) (int_le b.lo.z most.z)
    ∙ (λ i. x i && y i && z i)

-- ---- the views

-- a side is the same from nowhere on
same_side : (near far lo hi : ℤ) → grown near far lo hi ≡ side (pos 0) (lo -ℤ far) (hi -ℤ near)
same_side near far lo hi =
    let low : lo -ℤ far ≡ (lo -ℤ far) -ℤ pos 0 = omega (arith, ints) in
    let high : hi -ℤ near ≡ (hi -ℤ near) -ℤ pos 0 = omega (arith, ints) in
    λ i. record { lo = low i; hi = high i }

seen : (c : Bounds) (v : Point) (b : Bounds) → pass_grown (slopes_of c.lo v) c b
    ≡ all_overlap (on_x origin (widened v) (widened_by b c)) (on_y origin (widened v) (widened_by b c)) (on_z origin (widened v) (widened_by b c))
seen c v b =
    let x : Slab = axis_of c.lo.x c.hi.x v.x b.lo.x b.hi.x in
    let y : Slab = axis_of c.lo.y c.hi.y v.y b.lo.y b.hi.y in
    let z : Slab = axis_of c.lo.z c.hi.z v.z b.lo.z b.hi.z in
    let sx = same_side c.lo.x c.hi.x b.lo.x b.hi.x in
    let sy = same_side c.lo.y c.hi.y b.lo.y b.hi.y in
    let sz = same_side c.lo.z c.hi.z b.lo.z b.hi.z in
    (λ i. passes (course v.x v.y) (sx i) (sy i) && passes (course v.x v.z) (sx i) (sz i) && passes (course v.y v.z) (sy i) (sz i))
    ∙ (λ i. passes_is v.x v.y x y i && passes_is v.x v.z x z i && passes_is v.y v.z y z i)

straight : (v : Point) → displacement origin (widened v) ≡ widened v
straight v =
    let x : v.x -ℤ pos 0 ≡ v.x = omega (arith, ints) in
    let y : v.y -ℤ pos 0 ≡ v.y = omega (arith, ints) in
    let z : v.z -ℤ pos 0 ≡ v.z = omega (arith, ints) in
    λ i. record { x = x i; y = y i; z = z i }

-- the corners of both boxes are in order and in space
pub record Known (cast : Cast) (b : Bounds) : Type 0 where
  pub cast_ordered : IsTrue (is_at_most cast.body.lo cast.body.hi)
  pub cast_in_space : IsTrue (meets space cast.body)
  pub ordered : IsTrue (is_at_most b.lo b.hi)
  pub in_space : IsTrue (meets space b)

whole : CastLaws → {cast : Cast} {around_it : Bounds} {slopes : Slopes} (b : Bounds) → IsPreparedCast cast around_it slopes → Known cast b
    → (meets around_it b && pass_grown slopes cast.body b) ≡ in_cast cast.body cast.by b
whole laws {cast = cast} b p known =
    let c : Bounds = cast.body in
    let v : Point = cast.by in
    let wide : WideBounds = widened_by b c in
    let near : meets (cast_hull c v) b
    ≡ (is_on_way (on_x origin (widened v) wide) && is_on_way (on_y origin (widened v) wide) && is_on_way (on_z origin (widened v) wide)) =
    around c v b known.cast_in_space known.in_space in
    (λ i. meets (p.hull i) b && pass_grown (p.slopes i) c b)
    ∙ (λ i. near i && seen c v b i)
    ∙ sym (λ i. meet_on_way (on_x origin (straight v i) wide) (on_y origin (straight v i) wide) (on_z origin (straight v i) wide))
    ∙ laws.segs origin (widened v) wide (laws.ordered b c known.ordered known.cast_ordered)
    ∙ sym (laws.slides c v b)

pub passed_by : CastLaws → {cast : Cast} {around_it : Bounds} {slopes : Slopes} (b : Bounds) → IsPreparedCast cast around_it slopes → Known cast b
    → meets around_it b ≡ false → false ≡ in_cast cast.body cast.by b
passed_by laws {cast = cast} {slopes = slopes} b p known out = (λ i. sym out i && pass_grown slopes cast.body b) ∙ whole laws b p known

pub passed : CastLaws → {cast : Cast} {around_it : Bounds} {slopes : Slopes} (b : Bounds) → IsPreparedCast cast around_it slopes → Known cast b
    → meets around_it b ≡ true → pass_grown slopes cast.body b ≡ in_cast cast.body cast.by b
passed laws {cast = cast} {slopes = slopes} b p known near = (λ i. sym near i && pass_grown slopes cast.body b) ∙ whole laws b p known
