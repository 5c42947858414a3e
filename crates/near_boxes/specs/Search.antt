-- Serves proofs alone: what a search for the nearest keeps of the boxes that it was shown.
use Rattle.std.proofs.Common.{◌≡◌, ℕ, Bool, true, ◌-◌, ◌||◌, ◌&&◌, nat_le, nat_lt, IsTrue, List, get_or, length, map, take, sym, ap, ◌∙◌}
use Rattle.std.specs.List.{Contains, filter}
use Rattle.std.specs.List.Sorted.{IsPermutation}
use Rattle.std.specs.Ordering.{nat_cmp}
use Rattle.std.specs.FinMap.{FinMap, contains_key}
use Rattle.fixed_box.specs.Bounds.{Bounds, meets}
use Rattle.fixed_box.specs.Space.{space}
use Rattle.std.proofs.lemmas.List.Sorted.{IsPermutation-map, Contains-permutation}
use Rattle.ordered_lists.specs.Ordered.{ordered_by}
use Rattle.ordered_lists.specs.OrderedLaws.{filter_ordered}
use Rattle.ordered_lists.specs.SortedLists.{only_members}
use Rattle.near_boxes.specs.declared.near.Near.{Near}
use Rattle.near_boxes.specs.Nearest.{near_cmp, seen_about}
use Rattle.near_boxes.specs.NearOrder.{near_total, ties_one}

-- one of the bodies that are asked for
abbrev pub is_asked : FinMap nat_cmp Bounds → Near → Bool
is_asked bodies n = contains_key bodies n.slot

-- nearer than a square
abbrev pub is_nearer : ℕ → Near → Bool
is_nearer than n = nat_lt n.square than

-- the last is nearer than a square, or there is none
abbrev pub is_last_nearer : ℕ → List Near → Bool
is_last_nearer than ns = nat_le (length ns) 0 || is_nearer than (get_or ns (length ns - 1) (record { slot = 0; square = 0 }))

-- there are enough, and the last is nearer than a square
abbrev pub is_passed : ℕ → ℕ → List Near → Bool
is_passed want than ns = nat_le want (length ns) && is_last_nearer than ns

-- of boxes that were shown, those that are asked for
abbrev pub seen_of : FinMap nat_cmp Bounds → Bounds → List (ℕ × Bounds) → List Near
seen_of bodies to seen = filter (is_asked bodies) (map (seen_about to) seen)

-- the boxes that are asked for lie in space
abbrev pub LieInSpace : FinMap nat_cmp Bounds → List (ℕ × Bounds) → Type 0
LieInSpace bodies seen = (e : ℕ × Bounds) → Contains seen e → contains_key bodies e.0 ≡ true → IsTrue (meets space e.1)

-- the nearest of what was shown, if it lies in space
abbrev pub HasNearest : FinMap nat_cmp Bounds → Bounds → ℕ → List Near → List (ℕ × Bounds) → Type 0
HasNearest bodies to want nears seen = LieInSpace bodies seen → nears ≡ take want (ordered_by near_cmp (seen_of bodies to seen))

-- The order in which boxes were shown doesn't matter.
pub any_order : (bodies : FinMap nat_cmp Bounds) (to : Bounds) (want : ℕ) (nears : List Near) (seen other : List (ℕ × Bounds)) → IsPermutation seen other
    → HasNearest bodies to want nears seen → HasNearest bodies to want nears other
any_order bodies to want nears seen other moved has in_space =
    let g : ℕ × Bounds → Near = seen_about to in
    let p : Near → Bool = is_asked bodies in
    let before : LieInSpace bodies seen = λ e c a. in_space e (Contains-permutation seen other e moved c) a in
    let same : ordered_by near_cmp (map g seen) ≡ ordered_by near_cmp (map g other) =
    sym (only_members near_cmp near_total (map g seen) (map g other) (ties_one (map g seen)) (IsPermutation-map g seen other moved)) in
    has before
    ∙ ap (take want)
    (sym (filter_ordered near_cmp near_total p (map g seen)) ∙ ap (filter p) same ∙ filter_ordered near_cmp near_total p (map g other))
