-- Definitions: numbers of nodes that were looked at.
use Rattle.std.specs.Prelude.{ℕ, ◌+◌, ◌-◌, ◌^◌, min}

-- a number of 64 bits, which stops at its greatest value
abbrev pub raised : ℕ → ℕ → ℕ
raised looked more = min (looked + more) (2 ^ 64 - 1)
