-- Which of the bodies that touch collide, as an engine asks it, and what has changed since the frame before.
use Rattle.std.specs.Prelude.{◌≡◌, ℕ, Bool, true, false, not, ◌&&◌, List, filter, slice_index_or}
use Rattle.std.specs.List.{Contains}
use Rattle.std.specs.Ordering.{nat_cmp}
use Rattle.std.specs.FinMap.{FinMap}
use Rattle.fixed_box.specs.Bounds.{Bounds}
use Rattle.live_table.specs.declared.group.Group.{Group}
use Rattle.live_table.specs.declared.masks.Masks.{Masks}
use Rattle.live_table.specs.Pairing.{both_see, one_owner}
use Rattle.broad_index.specs.declared.pair.Pair.{Pair}
use Rattle.broad_index.specs.Members.{has_pair}
use Rattle.broad_index.specs.Near.{rises}
use Rattle.engine_tick.specs.declared.kind.Kind.{Kind}
use Rattle.engine_tick.specs.Touching.{DoTouch}

abbrev pub masks_of : Kind → Masks
masks_of kind = record { is = kind.groups; sees = kind.sees }

abbrev pub group_of : Kind → Group
group_of kind = record { owner = kind.owner; fixed = false }

-- each of two bodies sees a group that the other is in, and nobody owns both
abbrev pub may_collide : Kind → Kind → Bool
may_collide a b = both_see (masks_of a) (masks_of b) && not (one_owner (group_of a) (group_of b))

-- The kind of a slot. Past the end of the list it is in no group and sees none, so that it collides with nobody.
abbrev pub kind_of : List Kind → ℕ → Kind
kind_of kinds slot = slice_index_or kinds slot (record { owner = 0; groups = 0; sees = 0 })

-- the kinds of two bodies let them collide
abbrev pub is_let : List Kind → Pair → Bool
is_let kinds p = may_collide (kind_of kinds p.a) (kind_of kinds p.b)

-- two bodies collide: they touch, and their kinds let them
pub record DoCollide (bodies : FinMap nat_cmp Bounds) (kinds : List Kind) (p : Pair) : Type 0 where
  pub touch : DoTouch bodies p
  pub let_them : is_let kinds p ≡ true

-- the listed pairs are those of the bodies that collide, each once: none is missed, no other is there, and they rise
pub record AreColliding (bodies : FinMap nat_cmp Bounds) (kinds : List Kind) (pairs : List Pair) : Type 0 where
  pub none_missed : (p : Pair) → DoCollide bodies kinds p → Contains pairs p
  pub no_other : (p : Pair) → Contains pairs p → DoCollide bodies kinds p
  pub in_order : rises pairs ≡ true

-- the pairs of one list that another hasn't, in order
abbrev pub without : List Pair → List Pair → List Pair
without others pairs = filter (λ p. not (has_pair others p)) pairs
