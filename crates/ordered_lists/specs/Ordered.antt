-- Definitions: a list put in rising order, whatever its members and whichever the order.
use Rattle.std.specs.Prelude.{◌≡◌, ℕ, cond, List, [], ◌∷◌, take}
use Rattle.std.specs.List.{Contains}
use Rattle.std.specs.List.Sorted.{IsPermutation, IsSorted}
use Rattle.std.specs.declared.cmp.Ordering.{Ordering}
use Rattle.std.specs.declared.cmp.Ordering.TheVariants.{Equal}
use Rattle.std.specs.Ordering.{is_lt}

-- a member put before the first one that isn't less
abbrev pub placed : {X : Type 0} → (X → X → Ordering) → X → List X → List X
placed cmp x [] = x ∷ []
placed cmp x (y ∷ ys) = cond (is_lt (cmp y x)) (y ∷ placed cmp x ys) (x ∷ y ∷ ys)

-- The same members in rising order. Those that the order doesn't tell apart stay as they stand.
abbrev pub ordered_by : {X : Type 0} → (X → X → Ordering) → List X → List X
ordered_by cmp [] = []
ordered_by cmp (x ∷ xs) = placed cmp x (ordered_by cmp xs)

-- Members that the order doesn't tell apart are one, so that there is one rising order.
abbrev pub TiesAreOne : {X : Type 0} → (X → X → Ordering) → List X → Type 0
TiesAreOne {X} cmp xs = (x y : X) → Contains xs x → Contains xs y → cmp x y ≡ Equal → x ≡ y

-- The first so many members in a rising order. Among those that tie it may have taken any.
pub record IsFront {X : Type 0} (cmp : X → X → Ordering) (want : ℕ) (xs front : List X) : Type 0 where
  pub all : List X
  pub members : IsPermutation xs all
  pub rising : IsSorted cmp all
  pub first : front ≡ take want all
