-- Serves proofs alone: two lists side by side, and what is found of the live box with a slot.
use Rattle.std.specs.Prelude.{◌≡◌, ℕ, Bool, true, if◌then◌else◌, List, [], ◌∷◌, map, filter, Option, Some, None, option_map, is_some}
use Rattle.std.specs.List.{All}
use Rattle.fixed_box.specs.Bounds.{Bounds}
use Rattle.live_table.specs.declared.handle.Handle.{Handle}
use Rattle.live_table.specs.declared.live.Live.{Live}
use Rattle.live_table.specs.Entries.{slot_of, live_at}
use Rattle.ray_slabs.specs.Crossing.{Fraction}
use Rattle.box_cast.specs.Cast.{IsSameValue}
use Rattle.live_queries.specs.declared.groups.Groups.{Groups}
use Rattle.live_queries.specs.Queries.{is_met}
use Rattle.live_queries.specs.declared.hit.Hit.{Hit}

-- each member of one list stands beside one of the other
abbrev pub AreBeside : {X Y : Type 0} → (X → Y → Type 0) → List X → List Y → Type 0
AreBeside R [] [] = Unit {0}
AreBeside R [] (y ∷ ys) = ⊥
AreBeside R (x ∷ xs) [] = ⊥
AreBeside R (x ∷ xs) (y ∷ ys) = R x y × AreBeside R xs ys

-- there is none of both, or one beside the other
abbrev pub IsBeside : {X Y : Type 0} → (X → Y → Type 0) → Option X → Option Y → Type 0
IsBeside R None None = Unit {0}
IsBeside R None (Some y) = ⊥
IsBeside R (Some x) None = ⊥
IsBeside R (Some x) (Some y) = R x y

-- the handle of a slot's box
abbrev pub handle_at : List Live → ℕ → Option Handle
handle_at entries slot = option_map (λ entry. entry.handle) (live_at slot entries)

-- where there is one that passes
abbrev pub passing : (Live → Bool) → Option Live → Option Live
passing test None = None
passing test (Some entry) = if test entry then Some entry else None

-- a slot's box, where it is met on the way and asked for
abbrev pub met_at : (Bounds → Option Fraction) → Groups → List Live → ℕ → Option Live
met_at place groups entries slot = passing (is_met place groups) (live_at slot entries)

-- A hit is that of a live box: it has its slot, and the value of its place.
pub record IsHit (place : Bounds → Option Fraction) (entries : List Live) (hit : Hit) (entry : Live) : Type 0 where
  pub slot : hit.slot ≡ slot_of entry
  pub live : live_at (slot_of entry) entries ≡ Some entry
  pub same : IsSameValue (Some hit.entry) (place entry.body)

-- Slots of some live boxes, among them of each that is met on the way.
pub record ListsMet (place : Bounds → Option Fraction) (entries : List Live) (slots : List ℕ) : Type 0 where
  pub passes : Live → Bool
  pub listed : slots ≡ map slot_of (filter passes entries)
  pub met : All (λ entry. is_some (place entry.body) ≡ true → passes entry ≡ true) entries
