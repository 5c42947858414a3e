-- The corners of made boxes, and of boxes that move: in order, and near to where they were made.
use Rattle.std.proofs.Common.{◌≡◌, ℕ, ◌+◌, ◌*◌, ◌^◌, ◌<◌, ◌≤◌, true, ◌&&◌, ℤ, pos, neg_ℤ, ◌+ℤ◌, ◌≤ℤ◌, int_le, IsTrue}
use Rattle.std.proofs.Common.{◌/◌, ◌%◌, refl, sym, subst, ap, ◌∙◌, arith}
use Rattle.std.proofs.lemmas.Int.{ints}
use Rattle.fixed_box.specs.declared.point.Point.{Point}
use Rattle.fixed_box.specs.Bounds.{Bounds}
use Rattle.fixed_box.specs.Point.{is_at_most}
use Rattle.made_scene.specs.MadeScene.{made_bounds, step, stepped, moved, zero_box}
use Rattle.made_scene.specs.Ranges.{IsNear, IsNearPoint}
use Rattle.fixed_box.proofs.Bools.{true_from, true_to, and_left, and_right}

in_order : (p q : Point) → p.x ≤ℤ q.x → p.y ≤ℤ q.y → p.z ≤ℤ q.z → IsTrue (is_at_most p q)
in_order p q x y z =
    ap (λ t. t && int_le p.y q.y && int_le p.z q.z) (true_from _ x.le) ∙ ap (λ t. t && int_le p.z q.z) (true_from _ y.le) ∙ true_from _ z.le

bounds_in_order : (w1 w2 w3 w4 : ℕ) → IsTrue (is_at_most (made_bounds w1 w2 w3 w4).lo (made_bounds w1 w2 w3 w4).hi)
bounds_in_order w1 w2 w3 w4 =
    in_order (made_bounds w1 w2 w3 w4).lo (made_bounds w1 w2 w3 w4).hi (omega (arith, ints)) (omega (arith, ints)) (omega (arith, ints))

-- the corners of a made box
pub made_in_order : (w1 w2 w3 w4 : ℕ) (p q : Point) → p ≡ (made_bounds w1 w2 w3 w4).lo → q ≡ (made_bounds w1 w2 w3 w4).hi → IsTrue (is_at_most p q)
made_in_order w1 w2 w3 w4 p q e f =
    let P : Point → Point → Type 0 = λ a b. IsTrue (is_at_most a b) in
    subst (λ a. P a q) (sym e) (subst (λ b. P (made_bounds w1 w2 w3 w4).lo b) (sym f) (bounds_in_order w1 w2 w3 w4))

-- a corner between the least and the greatest that is made
made_point_near : (x y z : ℕ) → x ≤ 17626111 → y ≤ 17626111 → z ≤ 17626111 → IsNearPoint 0 (record { x = pos x; y = pos y; z = pos z })
made_point_near x y z a b c = record {
  x_low = omega (arith, ints);
  y_low = omega (arith, ints);
  z_low = omega (arith, ints);
  x_high = omega (arith, ints);
  y_high = omega (arith, ints);
  z_high = omega (arith, ints);
}

pub made_near : (w1 w2 w3 w4 : ℕ) → w1 < 2 ^ 32 → w2 < 2 ^ 32 → w3 < 2 ^ 32 → IsNear 0 (made_bounds w1 w2 w3 w4)
made_near w1 w2 w3 w4 a b c = record {
  ordered = bounds_in_order w1 w2 w3 w4;
  lo = made_point_near (w1 / 256) (w2 / 256) (w3 / 256) (omega arith) (omega arith) (omega arith);
  hi = made_point_near (w1 / 256 + 65536 + 3072 * (w4 % 256)) (w2 / 256 + 65536 + 3072 * (w4 / 256 % 256)) (w3 / 256 + 65536 + 3072 * (w4 / 65536 % 256))
      (omega arith) (omega arith) (omega arith);
}

add_order : (a b d : ℤ) → int_le a b ≡ true → int_le (a +ℤ d) (b +ℤ d) ≡ true
add_order a b d h =
    let le : a ≤ℤ b = record { le = true_to (int_le a b) h } in
    let more : (a +ℤ d) ≤ℤ (b +ℤ d) = omega (arith, ints) in
    true_from (int_le (a +ℤ d) (b +ℤ d)) more.le

stepped_in_order : (w : ℕ) (lo hi : Point) → IsTrue (is_at_most lo hi) → IsTrue (is_at_most (stepped w lo) (stepped w hi))
stepped_in_order w lo hi h =
    let xy = and_left (int_le lo.x hi.x && int_le lo.y hi.y) (int_le lo.z hi.z) h in
    ap (λ t. t && int_le (stepped w lo).y (stepped w hi).y && int_le (stepped w lo).z (stepped w hi).z) (add_order lo.x hi.x (step (w % 256)) (and_left _ _ xy))
    ∙ ap (λ t. t && int_le (stepped w lo).z (stepped w hi).z) (add_order lo.y hi.y (step (w / 256 % 256)) (and_right _ _ xy))
    ∙ add_order lo.z hi.z (step (w / 65536 % 256)) (and_right (int_le lo.x hi.x && int_le lo.y hi.y) _ h)

-- the corners of a box that moves
pub moved_in_order : (w : ℕ) (lo hi p q : Point) → IsTrue (is_at_most lo hi) → p ≡ stepped w lo → q ≡ stepped w hi → IsTrue (is_at_most p q)
moved_in_order w lo hi p q h e f =
    let P : Point → Point → Type 0 = λ a b. IsTrue (is_at_most a b) in
    subst (λ a. P a q) (sym e) (subst (λ b. P (stepped w lo) b) (sym f) (stepped_in_order w lo hi h))

step_low : (times byte : ℕ) (part : ℤ) → neg_ℤ (pos (32640 * times)) ≤ℤ part → neg_ℤ (pos (32640 * (times + 1))) ≤ℤ (part +ℤ step byte)
step_low times byte part h = omega (arith, ints)

step_high : (times byte : ℕ) (part : ℤ) → byte < 256 → part ≤ℤ pos (17626111 + 32640 * times) → (part +ℤ step byte) ≤ℤ pos (17626111 + 32640 * (times + 1))
step_high times byte part b h = omega (arith, ints)

stepped_near : (times w : ℕ) (p : Point) → IsNearPoint times p → IsNearPoint (times + 1) (stepped w p)
stepped_near times w p h = record {
  x_low = step_low times (w % 256) p.x h.x_low;
  y_low = step_low times (w / 256 % 256) p.y h.y_low;
  z_low = step_low times (w / 65536 % 256) p.z h.z_low;
  x_high = step_high times (w % 256) p.x (omega arith) h.x_high;
  y_high = step_high times (w / 256 % 256) p.y (omega arith) h.y_high;
  z_high = step_high times (w / 65536 % 256) p.z (omega arith) h.z_high;
}

pub moved_near : (times w : ℕ) (b : Bounds) → IsNear times b → IsNear (times + 1) (moved w b)
unfolding moved
moved_near times w b h = record {
  ordered = stepped_in_order w b.lo b.hi h.ordered;
  lo = stepped_near times w b.lo h.lo;
  hi = stepped_near times w b.hi h.hi;
}

low_more : (n k : ℕ) (part : ℤ) → n ≤ k → neg_ℤ (pos (32640 * n)) ≤ℤ part → neg_ℤ (pos (32640 * k)) ≤ℤ part
low_more n k part l h = omega (arith, ints)

high_more : (n k : ℕ) (part : ℤ) → n ≤ k → part ≤ℤ pos (17626111 + 32640 * n) → part ≤ℤ pos (17626111 + 32640 * k)
high_more n k part l h = omega (arith, ints)

point_near_more : (n k : ℕ) (p : Point) → n ≤ k → IsNearPoint n p → IsNearPoint k p
point_near_more n k p l h = record {
  x_low = low_more n k p.x l h.x_low;
  y_low = low_more n k p.y l h.y_low;
  z_low = low_more n k p.z l h.z_low;
  x_high = high_more n k p.x l h.x_high;
  y_high = high_more n k p.y l h.y_high;
  z_high = high_more n k p.z l h.z_high;
}

-- what has moved at most so many times has moved at most more times
pub near_more : (n k : ℕ) (b : Bounds) → n ≤ k → IsNear n b → IsNear k b
near_more n k b l h = record { ordered = h.ordered; lo = point_near_more n k b.lo l h.lo; hi = point_near_more n k b.hi l h.hi }

-- the box that stands for none
pub zero_near : IsNear 0 zero_box
zero_near = record {
  ordered = refl;
  lo = made_point_near 0 0 0 (omega arith) (omega arith) (omega arith);
  hi = made_point_near 0 0 0 (omega arith) (omega arith) (omega arith);
}
