-- Serves proofs alone: boxes as numbers that are compared at once.
use Rattle.std.specs.Prelude.{◌≡◌, ℕ, ◌<◌, pos, Bool, ◌&&◌, int_le, List, slice_index_or, Option, None, Some}
use Rattle.std.specs.Ordering.{nat_cmp}
use Rattle.std.specs.FinMap.{FinMap, get}
use Rattle.fixed_box.specs.Bounds.{Bounds}
use Rattle.fixed_box.specs.declared.TheConstants.{SLOTS}
use Rattle.skin_index.specs.declared.lanes.Lanes.{Lanes}

-- no box: its fourth side is turned round
abbrev pub absent : Lanes
absent = record { lo_x = pos 0; lo_y = pos 0; lo_z = pos 0; lo_there = pos 1; hi_x = pos 0; hi_y = pos 0; hi_z = pos 0; hi_there = pos 0 }

-- a box where there is one
abbrev pub lanes_of : Option Bounds → Lanes
lanes_of None = absent
lanes_of (Some b) = record {
  lo_x = b.lo.x;
  lo_y = b.lo.y;
  lo_z = b.lo.z;
  lo_there = pos 0;
  hi_x = b.hi.x;
  hi_y = b.hi.y;
  hi_z = b.hi.z;
  hi_there = pos 0;
}

-- each lower number of one is at most the upper one of the other
abbrev pub reaches : Lanes → Lanes → Bool
reaches a b = int_le a.lo_x b.hi_x && int_le a.lo_y b.hi_y && int_le a.lo_z b.hi_z && int_le a.lo_there b.hi_there

-- each slot has the lanes of its box
abbrev pub AreLanes : List Lanes → FinMap nat_cmp Bounds → Type 0
AreLanes lanes bodies = (k : ℕ) → k < SLOTS → slice_index_or lanes k absent ≡ lanes_of (get bodies k)
