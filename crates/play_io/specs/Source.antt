-- What a read does to a source: to the bytes that it has left, where it tells them, and to its count of faults.
use Rattle.std.specs.Prelude.{◌≡◌, ℕ, ◌-◌, ◌^◌, ◌<◌, ◌≤◌, List, [], take, length, Option, Result, IfSome, Ok, Err}
use Rattle.std.specs.Io.KnownBytes.{prepend_known}
use Rattle.play_io.specs.declared.source.Failed.{Failed}

-- The bytes handed out are the next ones, in order, and no others are taken. A fault takes none.
abbrev pub TakesNext : Option (List ℕ) → Option (List ℕ) → Result ℕ Failed → List ℕ → Type 0
TakesNext before now (Ok n) into = before ≡ prepend_known (take n into) now
TakesNext before now (Err _) into = now ≡ before

-- At most a whole piece is handed out, and nothing for a piece that isn't empty only where no byte is left.
abbrev pub IsReadOf : Option (List ℕ) → Result ℕ Failed → List ℕ → Type 0
IsReadOf before (Ok n) into = (n ≤ length into) × (n ≡ 0 → 0 < length into → IfSome before (λ left. left ≡ []))
IsReadOf before (Err _) into = Unit {0}

-- A count rises with a fault, unless it stands at the last value of 64 bits. It never falls.
pub record CountsFault (before now : ℕ) : Type 0 where
  pub later : before ≤ now
  pub rose : before < 2 ^ 64 - 1 → before < now

-- Only a fault changes the count.
abbrev pub ReadCount : ℕ → ℕ → Result ℕ Failed → Type 0
ReadCount before now (Ok _) = now ≡ before
ReadCount before now (Err _) = CountsFault before now
