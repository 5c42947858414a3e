-- Serves proofs alone: what a visitor of exact boxes has seen while it was shown skins.
use Rattle.std.proofs.Common.{◌≡◌, ℕ, ◌+◌, ◌-◌, ◌^◌, ◌||◌, nat_lt, Bool, true, false, cond, not, List, map, Option, None, Some}
use Rattle.std.specs.List.{All, sum}
use Rattle.std.specs.List.Sorted.{IsPermutation}
use Rattle.std.specs.Ordering.{nat_cmp}
use Rattle.std.specs.FinMap.{FinMap, get}
use Rattle.std.proofs.lemmas.List.Sorted.{IsPermutation-sym, IsPermutation-map, All-permutation}
use Rattle.fixed_box.specs.Bounds.{Bounds, encloses}
use Rattle.slot_lists.specs.Present.{present}

-- All present slots, and all of 32 bits, are below this. What the visitor had seen before the skins stands this much higher in their list.
abbrev pub limit : FinMap nat_cmp Bounds → ℕ
limit bodies = 2 ^ 32 + sum (present bodies)

-- a box where there is one, and else its skin
abbrev pub box_or : Option Bounds → Bounds → Bounds
box_or None skin = skin
box_or (Some b) skin = b

-- what the visitor is shown for a skin
abbrev pub exact_of : FinMap nat_cmp Bounds → ℕ × Bounds → ℕ × Bounds
exact_of bodies e = cond (nat_lt e.0 (limit bodies)) (e.0, box_or (get bodies e.0) e.1) (e.0 - limit bodies, e.1)

-- whether a box is there and lies in a skin
abbrev pub lies_inside : Option Bounds → Bounds → Bool
lies_inside None skin = false
lies_inside (Some b) skin = encloses skin b

-- whether one of a list is the skin of a box, or was seen before
abbrev pub is_skin : FinMap nat_cmp Bounds → ℕ × Bounds → Bool
is_skin bodies e = not (nat_lt e.0 (limit bodies)) || lies_inside (get bodies e.0) e.1

-- If all that was shown are skins, the visitor has seen their boxes.
abbrev pub SawExact : FinMap nat_cmp Bounds → (List (ℕ × Bounds) → Type 0) → List (ℕ × Bounds) → Type 0
SawExact bodies saw seen = All (λ e. is_skin bodies e ≡ true) seen → saw (map (exact_of bodies) seen)

-- The order in which skins were shown doesn't matter.
pub exact_any_order : (bodies : FinMap nat_cmp Bounds) (saw : List (ℕ × Bounds) → Type 0)
    → ((seen other : List (ℕ × Bounds)) → IsPermutation seen other → saw seen → saw other)
    → (seen other : List (ℕ × Bounds)) → IsPermutation seen other → SawExact bodies saw seen → SawExact bodies saw other
exact_any_order bodies saw order seen other moved has skins =
    order (map (exact_of bodies) seen) (map (exact_of bodies) other) (IsPermutation-map (exact_of bodies) seen other moved)
    (has (All-permutation (λ e. is_skin bodies e ≡ true) other seen (IsPermutation-sym seen other moved) skins))
