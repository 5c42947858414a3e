-- Definitions: which pairs and which slots a list has, and which the lists of a map have.
use Rattle.std.specs.Prelude.{ℕ, Bool, false, not, ◌&&◌, nat_lt, ◌==◌, List, Option, Some, None}
use Rattle.std.specs.List.{list_any}
use Rattle.std.specs.Ordering.{nat_cmp}
use Rattle.std.specs.FinMap.{FinMap, get}
use Rattle.fixed_box.specs.Bounds.{Bounds}
use Rattle.broad_index.specs.declared.pair.Pair.{Pair}
use Rattle.broad_index.specs.declared.query.Query.{Query}
use Rattle.broad_index.specs.Found.{query_meets}
use Rattle.slot_lists.specs.Rising.{rises_by}
pub use Rattle.slot_lists.specs.Meeting.{both_meet}

abbrev pub same_pair : Pair → Pair → Bool
same_pair p q = p.a == q.a && p.b == q.b

-- whether a list has a pair
abbrev pub has_pair : List Pair → Pair → Bool
has_pair pairs p = list_any (same_pair p) pairs

-- whether a list has a slot
abbrev pub has_slot : List ℕ → ℕ → Bool
has_slot slots k = list_any (λ x. k == x) slots

-- each slot is below all later ones
abbrev pub slots_rise : List ℕ → Bool
slots_rise slots = rises_by nat_lt slots

-- a < b, both present, and their boxes meet
abbrev pub is_near : FinMap nat_cmp Bounds → Pair → Bool
is_near bodies p = nat_lt p.a p.b && both_meet (get bodies p.a) (get bodies p.b)

-- a box that is there and meets the query
abbrev pub meets_query : Query → Option Bounds → Bool
meets_query query None = false
meets_query query (Some b) = query_meets query b

-- a box that is there, and passes a test with its slot
abbrev pub passes : (ℕ × Bounds → Bool) → ℕ → Option Bounds → Bool
passes p slot None = false
passes p slot (Some b) = p (slot, b)

-- present, and its entry passes a test
abbrev pub is_listed : (ℕ × Bounds → Bool) → FinMap nat_cmp Bounds → ℕ → Bool
is_listed p bodies slot = passes p slot (get bodies slot)

-- present, and its box meets the query
abbrev pub is_found : FinMap nat_cmp Bounds → Query → ℕ → Bool
is_found bodies query slot = meets_query query (get bodies slot)

-- another slot, both present, and their boxes meet
abbrev pub is_reached : FinMap nat_cmp Bounds → ℕ → ℕ → Bool
is_reached bodies slot other = not (other == slot) && both_meet (get bodies slot) (get bodies other)
