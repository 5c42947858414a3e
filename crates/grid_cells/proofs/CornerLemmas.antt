-- Corners of boxes against each other, axis by axis.
use Rattle.std.proofs.Common.{◌≡◌, true, Option, Some, None, IsTrue, SomeIff, ℤ, ◌<◌, int_le, SFits, w32, ap, ◌∙◌, subst, arith}
use Rattle.std.proofs.lemmas.Int.{ints}
use Rattle.std.proofs.lemmas.Bool.{and_from}
use Rattle.std.specs.Prelude.{pos, negsuc}
use Rattle.fixed_box.specs.Bounds.{Bounds, encloses}
use Rattle.fixed_box.specs.declared.point.Point.{Point}
use Rattle.fixed_box.specs.Point.{is_at_most}
use Rattle.fixed_box.specs.Space.{space}
use Rattle.grid_cells.specs.Sized.{is_held}
use Rattle.fixed_box.proofs.Corners.{all_three, at_most_chain}
use Rattle.fixed_box.proofs.Numbers.{test_of_le}

-- a box whose corners have coordinates of 32 bits lies in space
pub inside_space : (lo hi : Point) (b : Bounds) → lo ≡ b.lo → hi ≡ b.hi → SFits w32 lo.x → SFits w32 lo.y → SFits w32 lo.z
    → SFits w32 hi.x → SFits w32 hi.y → SFits w32 hi.z → IsTrue (encloses space b)
inside_space lo hi b is_lo is_hi lx ly lz hx hy hz =
    and_from (is_at_most space.lo b.lo) (is_at_most b.hi space.hi)
    (subst (λ (p : Point). is_at_most space.lo p ≡ true) is_lo (all_three space.lo lo (from lo.x lx) (from lo.y ly) (from lo.z lz)))
    (subst (λ (p : Point). is_at_most p space.hi ≡ true) is_hi (all_three hi space.hi (to hi.x hx) (to hi.y hy) (to hi.z hz)))
  where
    from : (x : ℤ) → SFits w32 x → int_le (negsuc 2147483647) x ≡ true
    from (pos n) fits = test_of_le (negsuc 2147483647) (pos n) (omega (arith, ints))
    from (negsuc n) fits = let few : n < 2147483648 = fits.sfits in test_of_le (negsuc 2147483647) (negsuc n) (omega (arith, ints, few))

    to : (x : ℤ) → SFits w32 x → int_le x (pos 2147483647) ≡ true
    to (pos n) fits = let few : n < 2147483648 = fits.sfits in test_of_le (pos n) (pos 2147483647) (omega (arith, ints, few))
    to (negsuc n) fits = test_of_le (negsuc n) (pos 2147483647) (omega (arith, ints))

-- a box between two corners is there, and lies in the box that they make
pub held_between : (lo hi : Point) (b : Bounds) (o : Option Bounds) → SomeIff o (IsTrue (is_at_most lo hi)) (record { lo = lo; hi = hi })
    → is_at_most b.lo b.hi ≡ true → is_at_most lo b.lo ≡ true → is_at_most b.hi hi ≡ true → is_held o b ≡ true
held_between lo hi b None made o l h = absurd (made (at_most_chain lo b.lo hi l (at_most_chain b.lo b.hi hi o h)))
held_between lo hi b (Some x) made o l h =
    ap (λ (a : Bounds). encloses a b) made.1 ∙ and_from (is_at_most lo b.lo) (is_at_most b.hi hi) l h
