-- Serves proofs alone: quotients rounded down, the cells beside a box, where the cells of what it meets are, and the order of cells.
use Rattle.std.proofs.Common.{◌≡◌, ◌⊎◌, ℕ, suc, ◌+◌, ◌*◌, ◌/◌, ◌<◌, ◌≤◌, arith, true, inl, inr, sym, ap, ◌∙◌, subst}
use Rattle.std.specs.Prelude.{max}
use Rattle.std.proofs.lemmas.Int.{ints}
use Rattle.std.proofs.lemmas.Bool.{and_parts}
use Rattle.std.proofs.lemmas.Nat.{pow_pos}
use Rattle.std.proofs.Math.Nat.{mul-le-mul_right, div-mul-le_self}
use Rattle.std.proofs.Math.Pow.{pow_mono}
use Rattle.std.specs.Prelude.{ℤ, pos, negsuc, ◌+ℤ◌, ◌-ℤ◌, ◌*ℤ◌, neg_ℤ, ◌≤ℤ◌, ◌<ℤ◌, int_le, unsigned_abs}
use Rattle.fixed_box.specs.Bounds.{Bounds, cell_side, level_of, longest_side, meets}
use Rattle.fixed_box.specs.Point.{is_at_most}
use Rattle.cell_table.specs.declared.cell_key.CellKey.{CellKey}
use Rattle.fixed_box.proofs.Corners.{axes}
use Rattle.grid_cells.specs.Cells.{cell_at, cell_of, cell_on, standing_cell, IsFrom, IsBeside, IsAfter}
use Rattle.grid_cells.specs.Sized.{IsSized}
use Rattle.grid_cells.specs.declared.cell.TheConstants.{FARTHEST_CELL}
use Rattle.std.specs.Int.{int_div_euclid}
use Rattle.std.proofs.lemmas.Nat.{div_below}

-- a number is below the end of the cell that it lies in
below : (a k : ℕ) → 0 < k → a < (a / k + 1) * k
below a k h = omega (arith, ints)

-- a number less than one cell above another is at most in the next cell
next_cell : (x y : ℤ) (k : ℕ) → 0 < k → x <ℤ (y +ℤ pos k) → (int_div_euclid x (pos k) -ℤ pos 1) ≤ℤ int_div_euclid y (pos k)
next_cell (pos a) (pos b) k h lt =
    let p : a / k < b / k + 2 = div_below a k (b / k + 2) h (let q = below b k h in omega (arith, ints)) in
    omega (arith, ints)
next_cell (pos a) (negsuc b) k h lt =
    let p : a / k < 1 = div_below a k 1 h (omega (arith, ints)) in
    let q : b / k < 1 = div_below b k 1 h (omega (arith, ints)) in
    omega (arith, ints)
next_cell (negsuc a) (pos b) k h lt = omega (arith, ints)
next_cell (negsuc a) (negsuc b) k h lt =
    let p : b / k < a / k + 2 = div_below b k (a / k + 2) h (let q = below a k h in omega (arith, ints)) in
    omega (arith, ints)

same_order : (x y : ℤ) (k : ℕ) → 0 < k → x ≤ℤ y → int_div_euclid x (pos k) ≤ℤ int_div_euclid y (pos k)
same_order (pos a) (pos b) k h le =
    let p : a / k < b / k + 1 = div_below a k (b / k + 1) h (let q = below b k h in omega (arith, ints)) in
    omega (arith, ints)
same_order (pos a) (negsuc b) k h le = absurd (omega (arith, ints))
same_order (negsuc a) (pos b) k h le = omega (arith, ints)
same_order (negsuc a) (negsuc b) k h le =
    let p : b / k < a / k + 1 = div_below b k (a / k + 1) h (let q = below a k h in omega (arith, ints)) in
    omega (arith, ints)

beside_on : (level : ℕ) (alo ahi blo bhi : ℤ) → 0 < cell_side level → unsigned_abs (bhi -ℤ blo) < cell_side level → int_le blo bhi ≡ true
    → int_le alo bhi ≡ true → int_le blo ahi ≡ true → IsFrom level alo ahi (cell_at level blo)
beside_on level alo ahi blo bhi some short o left right = record {
  low = next_cell alo blo (cell_side level) some (omega (arith, ints));
  high = same_order blo ahi (cell_side level) some (omega (arith, ints));
}

pub some_side : (level : ℕ) → 0 < cell_side level
some_side level = pow_pos (12 + 2 * level)

pub beside : (level : ℕ) (a b : Bounds) → longest_side b < cell_side level → is_at_most b.lo b.hi ≡ true → meets a b ≡ true
    → IsBeside level a (cell_on level b.lo)
beside level a b short o m =
    let ms = and_parts (is_at_most a.lo b.hi) (is_at_most b.lo a.hi) m in
    let ob = axes b.lo b.hi o in
    let left = axes a.lo b.hi ms.0 in
    let right = axes b.lo a.hi ms.1 in
    let some = some_side level in
    record {
      x = beside_on level a.lo.x a.hi.x b.lo.x b.hi.x some (omega arith) ob.x left.x right.x;
      y = beside_on level a.lo.y a.hi.y b.lo.y b.hi.y some (omega arith) ob.y left.y right.y;
      z = beside_on level a.lo.z a.hi.z b.lo.z b.hi.z some (omega arith) ob.z left.z right.z;
    }

-- The cell of a box that meets a region is beside it.
pub met_beside : (level : ℕ) (region b : Bounds) → IsSized b → level_of b ≡ level → meets region b ≡ true → IsBeside level region (cell_of b)
met_beside level region b sized l m = subst (λ n. IsBeside n region (cell_of b)) l (beside (level_of b) region b sized.fits sized.ordered m)

wider : (l f : ℕ) → l ≤ f → cell_side l ≤ cell_side f
wider l f h = pow_mono {i = 12 + 2 * l} {j = 12 + 2 * f} (omega arith)

-- The cell of a floor that a box of a lower level stands in is beside each region that it meets.
pub met_low : (floor : ℕ) (region b : Bounds) → IsSized b → level_of b ≤ floor → meets region b ≡ true → IsBeside floor region (cell_on floor b.lo)
met_low floor region b sized h m =
    let wide = wider (level_of b) floor h in
    let fits = sized.fits in
    beside floor region b (shorter (longest_side b) (cell_side (level_of b)) (cell_side floor) fits wide) sized.ordered m
  where
    shorter : (x y z : ℕ) → x < y → y ≤ z → x < z
    shorter x y z h l = omega arith

max_left : (l f : ℕ) → f ≤ l → max l f ≡ l
max_left l f h = omega arith

-- a box whose level is at the floor or above it stands in its own cell
pub stands_own : (floor : ℕ) (b : Bounds) → floor ≤ level_of b → standing_cell floor b ≡ cell_of b
stands_own floor b h = ap (λ n. cell_on n b.lo) (max_left (level_of b) floor h)

pub wide : (level : ℕ) → 4096 ≤ cell_side level
wide level = pow_mono {i = 12} {j = 12 + 2 * level} (omega arith)

few : (a k : ℕ) → 4096 ≤ k → a < 2147483648 → a / k < 524288
few a k w h = div_below a k 524288 (omega arith) (omega arith)

pub cell_low : (level : ℕ) (x : ℤ) → negsuc 2147483647 ≤ℤ x → neg_ℤ FARTHEST_CELL ≤ℤ cell_at level x
cell_low level (pos a) h = omega (arith, ints)
cell_low level (negsuc a) h = let p = few a (cell_side level) (wide level) (omega (arith, ints)) in omega (arith, ints)

pub cell_high : (level : ℕ) (x : ℤ) → x <ℤ pos 2147483648 → cell_at level x ≤ℤ FARTHEST_CELL
cell_high level (pos a) h = let p = few a (cell_side level) (wide level) (omega (arith, ints)) in omega (arith, ints)
cell_high level (negsuc a) h = omega (arith, ints)

-- ---- where cells start
-- a number from so many negative cells on
from_negative : (a n : ℕ) → a < n → neg_ℤ (pos n) ≤ℤ negsuc a
from_negative a n h = omega (arith, ints)

below_negative : (a n : ℕ) → n ≤ a → negsuc a <ℤ neg_ℤ (pos n)
below_negative a n h = omega (arith, ints)

least : (a n : ℕ) → neg_ℤ (pos n) ≤ℤ pos a
least a n = omega (arith, ints)

-- a cell that is at most the one of a number starts at most there
pub starts : (c x : ℤ) (k : ℕ) → 0 < k → c ≤ℤ int_div_euclid x (pos k) → (c *ℤ pos k) ≤ℤ x
starts (pos c) (pos a) k h le =
    let m : c * k ≤ (a / k) * k = mul-le-mul_right k (omega (arith, ints)) in
    let d : (a / k) * k ≤ a = div-mul-le_self a k in
    omega (arith, ints)
starts (pos c) (negsuc a) k h le = absurd (omega (arith, ints))
starts (negsuc c) (pos a) k h le = least a (suc c * k)
starts (negsuc c) (negsuc a) k h le =
    let m : (a / k + 1) * k ≤ suc c * k = mul-le-mul_right k (omega (arith, ints)) in
    let d = below a k h in
    from_negative a (suc c * k) (omega arith)

-- a number in an earlier cell lies before the start of a cell
pub stops : (c x : ℤ) (k : ℕ) → 0 < k → int_div_euclid x (pos k) <ℤ c → x <ℤ (c *ℤ pos k)
stops (pos c) (pos a) k h lt =
    let m : (a / k + 1) * k ≤ c * k = mul-le-mul_right k (omega (arith, ints)) in
    let d = below a k h in
    omega (arith, ints)
stops (pos c) (negsuc a) k h lt = omega (arith, ints)
stops (negsuc c) (pos a) k h lt = absurd (omega (arith, ints))
stops (negsuc c) (negsuc a) k h lt =
    let m : suc c * k ≤ (a / k) * k = mul-le-mul_right k (omega (arith, ints)) in
    let d : (a / k) * k ≤ a = div-mul-le_self a k in
    below_negative a (suc c * k) (omega arith)

-- ---- the order of cells
pub int_order : (x y : ℤ) → (x <ℤ y) ⊎ ((x ≡ y) ⊎ (y <ℤ x))
int_order x y = grind (arith, ints)

one_key : (k c : CellKey) → k.level ≡ c.level → k.x ≡ c.x → k.y ≡ c.y → k.z ≡ c.z → k ≡ c
one_key k c l x y z =
    ap (λ n. record k { level = n }) l ∙ ap (λ n. record c { x = n; y = k.y; z = k.z }) x
    ∙ ap (λ n. record c { y = n; z = k.z }) y ∙ ap (λ n. record c { z = n }) z

-- of two cells of one level one comes after the other, or they are one
pub cell_order : (k c : CellKey) → k.level ≡ c.level → (k ≡ c) ⊎ (IsAfter k c ⊎ IsAfter c k)
cell_order k c l = elim (int_order k.x c.x) as (λ _. (k ≡ c) ⊎ (IsAfter k c ⊎ IsAfter c k)) [
  | inl x ↦ inr (inr (inl x))
  | inr rx ↦ elim rx as (λ _. (k ≡ c) ⊎ (IsAfter k c ⊎ IsAfter c k)) [
    | inr x ↦ inr (inl (inl x))
    | inl x ↦ elim (int_order k.y c.y) as (λ _. (k ≡ c) ⊎ (IsAfter k c ⊎ IsAfter c k)) [
      | inl y ↦ inr (inr (inr (inl (sym x, y))))
      | inr ry ↦ elim ry as (λ _. (k ≡ c) ⊎ (IsAfter k c ⊎ IsAfter c k)) [
        | inr y ↦ inr (inl (inr (inl (x, y))))
        | inl y ↦ elim (int_order k.z c.z) as (λ _. (k ≡ c) ⊎ (IsAfter k c ⊎ IsAfter c k)) [
          | inl z ↦ inr (inr (inr (inr (sym x, (sym y, z)))))
          | inr rz ↦ elim rz as (λ _. (k ≡ c) ⊎ (IsAfter k c ⊎ IsAfter c k)) [
            | inr z ↦ inr (inl (inr (inr (x, (y, z)))))
            | inl z ↦ inl (one_key k c l x y z)
          ]
        ]
      ]
    ]
  ]
]
