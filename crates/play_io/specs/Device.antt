-- A reader or a writer of std's as a source or a sink: what a clause sees of it, and how its count of faults goes.
use Rattle.std.specs.Prelude.{◌≡◌, ℕ, Result, MatchResult}
use Rattle.play_io.specs.Memory.{one_more}

-- the reader or writer, and how many of the calls failed
pub record OverDevice (D : Type 0) : Type 0 where
  pub device : D
  pub faults : ℕ

-- the same after one more fault
abbrev pub with_fault : {D : Type 0} → OverDevice D → OverDevice D
with_fault o = record o { faults = one_more o.faults }

-- A fault counts once, and nothing else does.
abbrev pub FaultsCounted : {T E : Type 0} → ℕ → ℕ → Result T E → Type 0
FaultsCounted before now result = MatchResult result (λ _. now ≡ before) (λ _. now ≡ one_more before)
