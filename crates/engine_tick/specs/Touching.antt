-- Which pairs of bodies touch, as an engine asks it.
use Rattle.std.specs.Prelude.{◌≡◌, ◌<◌, true, List, Some}
use Rattle.std.specs.List.{Contains}
use Rattle.std.specs.Ordering.{nat_cmp}
use Rattle.std.specs.FinMap.{FinMap, get}
use Rattle.fixed_box.specs.Bounds.{Bounds, meets}
use Rattle.broad_index.specs.declared.pair.Pair.{Pair}

-- two bodies touch: both are there, and their boxes meet
pub record DoTouch (bodies : FinMap nat_cmp Bounds) (p : Pair) : Type 0 where
  pub first : Bounds
  pub second : Bounds
  pub order : p.a < p.b
  pub has_first : get bodies p.a ≡ Some first
  pub has_second : get bodies p.b ≡ Some second
  pub met : meets first second ≡ true

-- the listed pairs are those of the bodies that touch: none is missed, and no other is there
pub record AreTouching (bodies : FinMap nat_cmp Bounds) (pairs : List Pair) : Type 0 where
  pub none_missed : (p : Pair) → DoTouch bodies p → Contains pairs p
  pub no_other : (p : Pair) → Contains pairs p → DoTouch bodies p
