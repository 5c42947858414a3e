-- Definitions: boxes of slots that meet.
use Rattle.std.specs.Prelude.{ℕ, Bool, false, Option, Some, None}
use Rattle.std.specs.Ordering.{nat_cmp}
use Rattle.std.specs.FinMap.{FinMap, get}
use Rattle.fixed_box.specs.Bounds.{Bounds, meets}

-- two boxes that are there and meet
abbrev pub both_meet : Option Bounds → Option Bounds → Bool
both_meet None b = false
both_meet (Some a) None = false
both_meet (Some a) (Some b) = meets a b

-- both slots have boxes, and these meet
abbrev pub slots_meet : FinMap nat_cmp Bounds → ℕ → ℕ → Bool
slots_meet bodies a b = both_meet (get bodies a) (get bodies b)
