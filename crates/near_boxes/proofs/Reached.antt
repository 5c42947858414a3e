-- A box at most as far from another as that is fattened meets it.
use Rattle.std.proofs.Common.{◌≡◌, ℕ, ◌+◌, ◌*◌, ◌≤◌, max, true, ◌&&◌, arith, inl, inr, sym, subst}
use Rattle.std.proofs.Math.Nat.{mul-le-mul_left}
use Rattle.std.proofs.lemmas.Int.{ints}
use Rattle.std.proofs.lemmas.Bool.{and_parts, and_from, cases_lt}
use Rattle.std.specs.Prelude.{ℤ, pos, negsuc, ◌+ℤ◌, ◌≤ℤ◌, int_le}
use Rattle.fixed_box.specs.Bounds.{Bounds, meets, fattened}
use Rattle.fixed_box.specs.Point.{is_at_most, lowered, raised}
use Rattle.fixed_box.specs.Space.{space}
use Rattle.near_boxes.specs.Nearest.{above, gap_between, squared, square_apart}
use Rattle.near_boxes.specs.Within.{Reaches}
use Rattle.fixed_box.proofs.Numbers.{at_least, at_most}

-- two intervals that lie in space
record ArePlaced (from to lo hi : ℤ) : Type 0 where
  low : negsuc 2147483647 ≤ℤ to
  high : from ≤ℤ pos 2147483647
  begins : lo ≤ℤ pos 2147483647
  ends : negsuc 2147483647 ≤ℤ hi

record AreBoxesPlaced (a b : Bounds) : Type 0 where
  x : ArePlaced a.lo.x a.hi.x b.lo.x b.hi.x
  y : ArePlaced a.lo.y a.hi.y b.lo.y b.hi.y
  z : ArePlaced a.lo.z a.hi.z b.lo.z b.hi.z

record Ends (b : Bounds) : Type 0 where
  hx : negsuc 2147483647 ≤ℤ b.hi.x
  hy : negsuc 2147483647 ≤ℤ b.hi.y
  hz : negsuc 2147483647 ≤ℤ b.hi.z
  lx : b.lo.x ≤ℤ pos 2147483647
  ly : b.lo.y ≤ℤ pos 2147483647
  lz : b.lo.z ≤ℤ pos 2147483647

ends : (b : Bounds) → meets space b ≡ true → Ends b
ends b h =
    let parts = and_parts (is_at_most space.lo b.hi) (is_at_most b.lo space.hi) h in
    let low = and_parts (int_le space.lo.x b.hi.x && int_le space.lo.y b.hi.y) (int_le space.lo.z b.hi.z) parts.0 in
    let lows = and_parts (int_le space.lo.x b.hi.x) (int_le space.lo.y b.hi.y) low.0 in
    let high = and_parts (int_le b.lo.x space.hi.x && int_le b.lo.y space.hi.y) (int_le b.lo.z space.hi.z) parts.1 in
    let highs = and_parts (int_le b.lo.x space.hi.x) (int_le b.lo.y space.hi.y) high.0 in
    record {
      hx = at_least b.hi.x lows.0;
      hy = at_least b.hi.y lows.1;
      hz = at_least b.hi.z low.1;
      lx = at_most b.lo.x highs.0;
      ly = at_most b.lo.y highs.1;
      lz = at_most b.lo.z high.1;
    }

placed : (a b : Bounds) → meets space a ≡ true → meets space b ≡ true → AreBoxesPlaced a b
placed a b here h =
    let p = ends a here in
    let e = ends b h in
    record {
      x = record { low = p.hx; high = p.lx; begins = e.lx; ends = e.hx };
      y = record { low = p.hy; high = p.ly; begins = e.ly; ends = e.hy };
      z = record { low = p.hz; high = p.lz; begins = e.lz; ends = e.hz };
    }

within_reach : (low high : ℤ) (h : ℕ) → above low high ≤ h → high ≤ℤ (low +ℤ pos h)
within_reach low high h le = grind (arith, ints)

all_reach : (low high : ℤ) → negsuc 2147483647 ≤ℤ low → high ≤ℤ pos 2147483647 → high ≤ℤ (low +ℤ pos 4294967295)
all_reach low high a b = omega (arith, ints)

lowered_le : (at hi : ℤ) (h : ℕ) → at ≤ℤ pos 2147483647 → negsuc 2147483647 ≤ℤ hi → at ≤ℤ (hi +ℤ pos h) → int_le (lowered at h) hi ≡ true
lowered_le at hi h high low le = grind (arith, ints)

le_raised : (at lo : ℤ) (h : ℕ) → negsuc 2147483647 ≤ℤ at → lo ≤ℤ pos 2147483647 → lo ≤ℤ (at +ℤ pos h) → int_le lo (raised at h) ≡ true
le_raised at lo h low high le = grind (arith, ints)

-- squares rise with the numbers
pub square_le : (m n : ℕ) → m ≤ n → m * m ≤ n * n
square_le m n le = omega (arith, mul-le-mul_left m le, mul-le-mul_left n le)

pub root_le : (m n : ℕ) → m * m ≤ n * n → m ≤ n
root_le m n h = elim (cases_lt n m) as (λ _. m ≤ n) [
  | inl lt ↦ let more : n + 1 ≤ m = omega arith in absurd (omega (arith, h, square_le (n + 1) m more))
  | inr le ↦ le
]

parts_le : (x y z most : ℕ) → (x + y) + z ≤ most → (x ≤ most) × (y ≤ most) × (z ≤ most)
parts_le x y z most h = (omega arith, omega arith, omega arith)

max_parts : (m n h : ℕ) → max m n ≤ h → (m ≤ h) × (n ≤ h)
max_parts m n h le = (omega arith, omega arith)

module _ (from to lo hi : ℤ) (p : ArePlaced from to lo hi) (margin : ℕ) where
  -- the interval meets one that is widened to come as near
  record IsMet : Type 0 where
    low : int_le (lowered from margin) hi ≡ true
    high : int_le lo (raised to margin) ≡ true

  near_met : gap_between from to lo hi ≤ margin → IsMet
  near_met le =
      let g = max_parts (above to lo) (above hi from) margin le in
      record {
        low = lowered_le from hi margin p.high p.ends (within_reach hi from margin g.1);
        high = le_raised to lo margin p.low p.begins (within_reach to lo margin g.0);
      }

  far_met : margin ≡ 4294967295 → IsMet
  far_met e = record {
    low = lowered_le from hi margin p.high p.ends (subst (λ h. from ≤ℤ (hi +ℤ pos h)) (sym e) (all_reach hi from p.ends p.high));
    high = le_raised to lo margin p.low p.begins (subst (λ h. lo ≤ℤ (to +ℤ pos h)) (sym e) (all_reach to lo p.low p.begins));
  }

  near_enough : (most : ℕ) → Reaches margin most → squared (gap_between from to lo hi) ≤ most → IsMet
  near_enough most r le = elim r as (λ _. IsMet) [
    | inl h ↦
        let g : gap_between from to lo hi * gap_between from to lo hi ≤ margin * margin = (let k = le in let l = h in omega arith) in
        near_met (root_le (gap_between from to lo hi) margin g)
    | inr e ↦ far_met e
  ]

small_above : (low high : ℤ) → negsuc 2147483647 ≤ℤ low → high ≤ℤ pos 2147483647 → above low high ≤ 4294967295
small_above low high a b = grind (arith, ints)

small_gap : (from to lo hi : ℤ) → ArePlaced from to lo hi → gap_between from to lo hi ≤ 4294967295
small_gap from to lo hi p =
    let a = small_above to lo p.low p.begins in
    let b = small_above hi from p.ends p.high in
    most_of (above to lo) (above hi from) a b
  where
    most_of : (m n : ℕ) → m ≤ 4294967295 → n ≤ 4294967295 → max m n ≤ 4294967295
    most_of m n a b = omega arith

small_square : (from to lo hi : ℤ) → ArePlaced from to lo hi → squared (gap_between from to lo hi) ≤ 18446744065119617025
small_square from to lo hi p = square_le (gap_between from to lo hi) 4294967295 (small_gap from to lo hi p)

module _ (to : Bounds) (here : meets space to ≡ true) (b : Bounds) (h : meets space b ≡ true) where
  abbrev x_gap : ℕ
  x_gap = gap_between to.lo.x to.hi.x b.lo.x b.hi.x

  abbrev y_gap : ℕ
  y_gap = gap_between to.lo.y to.hi.y b.lo.y b.hi.y

  abbrev z_gap : ℕ
  z_gap = gap_between to.lo.z to.hi.z b.lo.z b.hi.z

  -- A box so near meets the fattened one.
  pub near_meets : (margin most : ℕ) → Reaches margin most → square_apart to b ≤ most → meets (fattened to margin) b ≡ true
  near_meets margin most r le =
      let p = placed to b here h in
      let fat = fattened to margin in
      let s = parts_le (squared x_gap) (squared y_gap) (squared z_gap) most le in
      let x = near_enough to.lo.x to.hi.x b.lo.x b.hi.x p.x margin most r s.0 in
      let y = near_enough to.lo.y to.hi.y b.lo.y b.hi.y p.y margin most r s.1 in
      let z = near_enough to.lo.z to.hi.z b.lo.z b.hi.z p.z margin most r s.2 in
      and_from (is_at_most fat.lo b.hi) (is_at_most b.lo fat.hi)
      (and_from (int_le fat.lo.x b.hi.x && int_le fat.lo.y b.hi.y) (int_le fat.lo.z b.hi.z)
      (and_from (int_le fat.lo.x b.hi.x) (int_le fat.lo.y b.hi.y) x.low y.low) z.low)
      (and_from (int_le b.lo.x fat.hi.x && int_le b.lo.y fat.hi.y) (int_le b.lo.z fat.hi.z)
      (and_from (int_le b.lo.x fat.hi.x) (int_le b.lo.y fat.hi.y) x.high y.high) z.high)

  -- No box in space is farther than that.
  pub all_near : square_apart to b ≤ 340282366920938463463374607431768211455
  all_near =
      let p = placed to b here h in
      sum_le (squared x_gap) (squared y_gap) (squared z_gap) (small_square to.lo.x to.hi.x b.lo.x b.hi.x p.x)
      (small_square to.lo.y to.hi.y b.lo.y b.hi.y p.y) (small_square to.lo.z to.hi.z b.lo.z b.hi.z p.z)
    where
      sum_le : (x y z : ℕ) → x ≤ 18446744065119617025 → y ≤ 18446744065119617025 → z ≤ 18446744065119617025
          → (x + y) + z ≤ 340282366920938463463374607431768211455
      sum_le x y z a b c = omega arith
