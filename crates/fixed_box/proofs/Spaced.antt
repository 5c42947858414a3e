-- A box whose corners have coordinates of 32 bits meets space.
use Rattle.std.proofs.Common.{◌≡◌, true, ◌&&◌, arith, sym, ap, ◌∙◌}
use Rattle.std.proofs.lemmas.Int.{ints}
use Rattle.std.proofs.lemmas.Bool.{and_from}
use Rattle.std.specs.Prelude.{ℤ, pos, negsuc, ◌≤ℤ◌, int_le}
use Rattle.fixed_box.specs.Bounds.{Bounds, meets}
use Rattle.fixed_box.specs.declared.point.Point.{Point}
use Rattle.fixed_box.specs.Point.{is_at_most}
use Rattle.fixed_box.specs.Space.{space}
use Rattle.fixed_box.proofs.Corners.{all_three}

pub spaced : (lo hi : Point) (b : Bounds) → lo ≡ b.lo → hi ≡ b.hi → lo.x ≤ℤ pos 2147483647 → lo.y ≤ℤ pos 2147483647 → lo.z ≤ℤ pos 2147483647
    → negsuc 2147483647 ≤ℤ hi.x → negsuc 2147483647 ≤ℤ hi.y → negsuc 2147483647 ≤ℤ hi.z → meets space b ≡ true
spaced lo hi b is_lo is_hi lx ly lz hx hy hz =
    ap (λ (p : Point). is_at_most space.lo p && is_at_most b.lo space.hi) (sym is_hi)
    ∙ ap (λ (p : Point). is_at_most space.lo hi && is_at_most p space.hi) (sym is_lo)
    ∙ and_from (is_at_most space.lo hi) (is_at_most lo space.hi) (all_three space.lo hi (low_end hi.x hx) (low_end hi.y hy) (low_end hi.z hz))
    (all_three lo space.hi (high_end lo.x lx) (high_end lo.y ly) (high_end lo.z lz))
  where
    low_end : (x : ℤ) → negsuc 2147483647 ≤ℤ x → int_le (negsuc 2147483647) x ≡ true
    low_end x h = grind (arith, ints)

    high_end : (x : ℤ) → x ≤ℤ pos 2147483647 → int_le x (pos 2147483647) ≡ true
    high_end x h = grind (arith, ints)
