-- The hull of a cast: what the moved box meets at some fraction of the way meets it.
use Rattle.std.proofs.Common.{◌≡◌, ℕ, ◌<◌, ◌≤◌, true, ℤ, pos, negsuc, ◌+ℤ◌, ◌-ℤ◌, ◌*ℤ◌, ◌≤ℤ◌, int_le, IsTrue, arith, inl, inr, ◌⊎◌}
use Rattle.std.specs.Int.{int_min, int_max, saturate_signed, w32}
use Rattle.std.specs.Cmp.{first_so, second_so}
use Rattle.std.specs.Cmp.Derive.{both_true}
use Rattle.std.proofs.lemmas.Int.{ints, clamps, by_lt_z}
use Rattle.fixed_box.specs.Bounds.{Bounds, meets}
use Rattle.fixed_box.specs.Point.{is_at_most}
use Rattle.fixed_box.specs.declared.point.Point.{Point}
use Rattle.ray_slabs.specs.ProductLaws.{scaled, add_mul, sub_mul, sub_mul_sub}
use Rattle.fixed_box.proofs.Numbers.{le_of_test, test_of_le, stopped_low, stopped_high}
use Rattle.fixed_box.specs.Space.{space}
use Rattle.box_cast.specs.Hull.{cast_hull}
use Rattle.box_cast.specs.Law.{CastMeets}
use Rattle.box_cast.proofs.Ordered.{Each, each}

-- A way from a by v that is somewhere no higher than m is no higher at one of its ends.
low_end : (p q : ℕ) (a v m : ℤ) → 0 < q → p ≤ q → (pos q *ℤ a +ℤ pos p *ℤ v) ≤ℤ (pos q *ℤ m) → (a ≤ℤ m) ⊎ ((a +ℤ v) ≤ℤ m)
low_end p q a v m some one h =
    by_lt_z m a
    (λ above. by_lt_z m (a +ℤ v)
    (λ above'.
    let rest : (pos 1 *ℤ (pos q -ℤ pos p)) ≤ℤ ((a -ℤ m) *ℤ (pos q -ℤ pos p)) =
    scaled (pos 1) (a -ℤ m) (pos q -ℤ pos p) (omega (arith, ints)) (omega (arith, ints)) in
    let gone : (pos 1 *ℤ pos p) ≤ℤ (((a +ℤ v) -ℤ m) *ℤ pos p) = scaled (pos 1) ((a +ℤ v) -ℤ m) (pos p) (omega (arith, ints)) (omega (arith, ints)) in
    absurd (omega (arith, ints, rest, gone, sub_mul_sub a m (pos q) (pos p), sub_mul (a +ℤ v) m (pos p), add_mul a v (pos p))))
    (λ le. inr le))
    (λ le. inl le)

-- and the same upwards
high_end : (p q : ℕ) (a v m : ℤ) → 0 < q → p ≤ q → (pos q *ℤ m) ≤ℤ (pos q *ℤ a +ℤ pos p *ℤ v) → (m ≤ℤ a) ⊎ (m ≤ℤ (a +ℤ v))
high_end p q a v m some one h =
    by_lt_z a m
    (λ below. by_lt_z (a +ℤ v) m
    (λ below'.
    let rest : (pos 1 *ℤ (pos q -ℤ pos p)) ≤ℤ ((m -ℤ a) *ℤ (pos q -ℤ pos p)) =
    scaled (pos 1) (m -ℤ a) (pos q -ℤ pos p) (omega (arith, ints)) (omega (arith, ints)) in
    let gone : (pos 1 *ℤ pos p) ≤ℤ ((m -ℤ (a +ℤ v)) *ℤ pos p) = scaled (pos 1) (m -ℤ (a +ℤ v)) (pos p) (omega (arith, ints)) (omega (arith, ints)) in
    absurd (omega (arith, ints, rest, gone, sub_mul_sub m a (pos q) (pos p), sub_mul m (a +ℤ v) (pos p), add_mul a v (pos p))))
    (λ le. inr le))
    (λ le. inl le)

lesser : (x y m : ℤ) → (x ≤ℤ m) ⊎ (y ≤ℤ m) → int_min x y ≤ℤ m
lesser x y m (inl h) = omega (arith, ints, clamps)
lesser x y m (inr h) = omega (arith, ints, clamps)

greater : (x y m : ℤ) → (m ≤ℤ x) ⊎ (m ≤ℤ y) → m ≤ℤ int_max x y
greater x y m (inl h) = omega (arith, ints, clamps)
greater x y m (inr h) = omega (arith, ints, clamps)

low_side : (p q : ℕ) (a v m : ℤ) → 0 < q → p ≤ q → (pos q *ℤ a +ℤ pos p *ℤ v) ≤ℤ (pos q *ℤ m) → int_le (negsuc 2147483647) m ≡ true
    → int_le (int_min a (saturate_signed w32 (a +ℤ v))) m ≡ true
low_side p q a v m some one h low =
    test_of_le (int_min a (saturate_signed w32 (a +ℤ v))) m
    (lesser a (saturate_signed w32 (a +ℤ v)) m (elim (low_end p q a v m some one h) as (λ _. (a ≤ℤ m) ⊎ (saturate_signed w32 (a +ℤ v) ≤ℤ m)) [
      | inl le ↦ inl le
      | inr le ↦ inr (stopped_low (a +ℤ v) m le (le_of_test (negsuc 2147483647) m low))
    ]))

high_side : (p q : ℕ) (a v m : ℤ) → 0 < q → p ≤ q → (pos q *ℤ m) ≤ℤ (pos q *ℤ a +ℤ pos p *ℤ v) → int_le m (pos 2147483647) ≡ true
    → int_le m (int_max a (saturate_signed w32 (a +ℤ v))) ≡ true
high_side p q a v m some one h high =
    test_of_le m (int_max a (saturate_signed w32 (a +ℤ v)))
    (greater a (saturate_signed w32 (a +ℤ v)) m (elim (high_end p q a v m some one h) as (λ _. (m ≤ℤ a) ⊎ (m ≤ℤ saturate_signed w32 (a +ℤ v))) [
      | inl le ↦ inl le
      | inr le ↦ inr (stopped_high (a +ℤ v) m le (le_of_test m (pos 2147483647) high))
    ]))

pub hull_meets : (c : Bounds) (v : Point) (b : Bounds) → IsTrue (meets space b) → CastMeets c v b → IsTrue (meets (cast_hull c v) b)
hull_meets c v b within m =
    let low : Each space.lo b.hi = each space.lo b.hi (first_so (is_at_most space.lo b.hi) (is_at_most b.lo space.hi) within) in
    let high : Each b.lo space.hi = each b.lo space.hi (second_so (is_at_most space.lo b.hi) (is_at_most b.lo space.hi) within) in
    both_true
    (both_true (both_true (low_side m.p m.q c.lo.x v.x b.hi.x m.above_zero m.at_most_one m.x.0 low.x)
    (low_side m.p m.q c.lo.y v.y b.hi.y m.above_zero m.at_most_one m.y.0 low.y))
    (low_side m.p m.q c.lo.z v.z b.hi.z m.above_zero m.at_most_one m.z.0 low.z))
    (both_true
    (both_true (high_side m.p m.q c.hi.x v.x b.lo.x m.above_zero m.at_most_one m.x.1 high.x)
    (high_side m.p m.q c.hi.y v.y b.lo.y m.above_zero m.at_most_one m.y.1 high.y))
    (high_side m.p m.q c.hi.z v.z b.lo.z m.above_zero m.at_most_one m.z.1 high.z))
