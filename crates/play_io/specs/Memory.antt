-- Sources and sinks in memory, as clauses see them.
use Rattle.std.specs.Prelude.{ℕ, ◌+◌, ◌-◌, ◌^◌, min, Bool, ◌==◌, if◌then◌else◌, List}
use Rattle.std.specs.List.{list_any}

-- the bytes that are left, and the most that a read hands out
pub record BytesLeft : Type 0 where
  pub left : List ℕ
  pub most : ℕ

-- the bytes written, how many of them were there at the last flush, and the most that a write takes
pub record BytesWritten : Type 0 where
  pub written : List ℕ
  pub settled : ℕ
  pub most : ℕ

-- the same of a source some of whose calls fail: their numbers, how many calls were made, and how many of them failed
pub record FaultyLeft : Type 0 where
  pub left : List ℕ
  pub most : ℕ
  pub failing : List ℕ
  pub calls : ℕ
  pub faults : ℕ

-- and of a sink, whose writes and flushes are counted together, with how many calls came after the first that failed
pub record FaultyWritten : Type 0 where
  pub written : List ℕ
  pub settled : ℕ
  pub most : ℕ
  pub failing : List ℕ
  pub calls : ℕ
  pub faults : ℕ
  pub since : ℕ

-- whether the call that comes is one of those that fail
abbrev pub fails_at : List ℕ → ℕ → Bool
fails_at failing call = list_any (λ n. n == call) failing

-- one more, up to the last value of 64 bits
abbrev pub one_more : ℕ → ℕ
one_more n = min (n + 1) (2 ^ 64 - 1)

-- a count of faults after the call that comes: one more where that call fails
abbrev pub faults_after : List ℕ → ℕ → ℕ → ℕ
faults_after failing call faults = if fails_at failing call then one_more faults else faults
