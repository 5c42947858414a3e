-- What a write and a flush do to a sink: to the bytes written and the number of them that are settled, where it tells them, and to its count of faults.
use Rattle.std.specs.Prelude.{◌≡◌, ℕ, ◌<◌, ◌≤◌, ◌==◌, if◌then◌else◌, List, take, length, Option, Result, Ok, Err, option_map}
use Rattle.std.specs.Io.KnownBytes.{append_known}
use Rattle.play_io.specs.declared.sink.SinkFault.{SinkFault}
use Rattle.play_io.specs.declared.sink.SinkFault.TheVariants.{Failed, NoMemory}
use Rattle.play_io.specs.Memory.{one_more}
use Rattle.play_io.specs.Source.{CountsFault}

-- The first bytes of the piece are written behind what was written before. A fault writes none.
abbrev pub PutsFront : Option (List ℕ) → Option (List ℕ) → Result ℕ SinkFault → List ℕ → Type 0
PutsFront before now (Ok n) piece = now ≡ append_known before (take n piece)
PutsFront before now (Err _) piece = now ≡ before

-- At most the whole piece is taken, and at least a byte of one that isn't empty.
abbrev pub IsWriteOf : Result ℕ SinkFault → List ℕ → Type 0
IsWriteOf (Ok n) piece = (n ≤ length piece) × (0 < length piece → 0 < n)
IsWriteOf (Err _) piece = Unit {0}

-- A flush settles all that was written. A fault settles nothing.
abbrev pub Settles : Option (List ℕ) → Option ℕ → Option ℕ → Result Unit SinkFault → Type 0
Settles written before now (Ok _) = now ≡ option_map length written
Settles written before now (Err _) = now ≡ before

-- how many calls came after the first that failed: one more with each call, once one has failed
abbrev pub since_after : ℕ → ℕ → ℕ
since_after faults since = if faults == 0 then since else one_more since

-- the same where a sink tells it
abbrev pub CountsSince : ℕ → Option ℕ → Option ℕ → Type 0
CountsSince faults before now = now ≡ option_map (since_after faults) before

-- Only `Failed` changes the count of faults.
abbrev pub SinkCount : {T : Type 0} → ℕ → ℕ → Result T SinkFault → Type 0
SinkCount before now (Ok _) = now ≡ before
SinkCount before now (Err NoMemory) = now ≡ before
SinkCount before now (Err Failed) = CountsFault before now
