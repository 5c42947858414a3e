-- Serves proofs alone: a table whose boxes have the slots from 0 on, with no gap.
use Rattle.std.specs.Prelude.{◌≡◌, ℕ, ◌+◌, ◌-◌, ◌<◌, ◌≤◌, true, false, List, [], ◌∷◌, ◌++◌, suc, length, map, replicate, is_none, slice_set}
use Rattle.fixed_box.specs.declared.TheConstants.{SLOTS}
use Rattle.live_table.specs.declared.live.Live.{Live}
use Rattle.live_table.specs.Entries.{live_at, entered}
use Rattle.live_table.specs.Table.{Table}

-- the entries have the slots from n on, with these generations
abbrev pub AreAt : ℕ → List ℕ → List Live → Type 0
AreAt n [] [] = Unit {0}
AreAt n [] (e ∷ es) = ⊥
AreAt n (g ∷ gs) [] = ⊥
AreAt n (g ∷ gs) (e ∷ es) = (e.handle ≡ record { slot = n; generation = g }) × AreAt (n + 1) gs es

-- the entries without the one of slot n + i: each lower slot has one, this has none, and a box that comes there closes the gap
pub record AreBut (n i : ℕ) (gs : List ℕ) (es : List Live) : Type 0 where
  pub taken : (slot : ℕ) → n ≤ slot → slot < n + i → is_none (live_at slot es) ≡ false
  pub gap : (slot : ℕ) → slot ≡ n + i → is_none (live_at slot es) ≡ true
  pub count : length es + 1 ≡ length gs
  pub back : (new : Live) (g : ℕ) → new.handle ≡ record { slot = n + i; generation = g } → AreAt n (slice_set gs i g) (entered new es)

-- how often each slot was given: once more than its generation says, and those past the end never
abbrev pub gives_after : List ℕ → List ℕ
gives_after gs = map suc gs ++ replicate (SLOTS - length gs) 0

-- a table whose boxes have these generations
pub record Follows (gs : List ℕ) (t : Table) : Type 0 where
  pub entries : AreAt 0 gs t.entries
  pub gives : t.gives ≡ gives_after gs
