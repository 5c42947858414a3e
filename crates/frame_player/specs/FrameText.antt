-- Serves proofs alone: the last line of a frame, as the player has its number.
use Rattle.std.specs.Prelude.{ℕ, List, [], Option, Some, None}
use Rattle.pair_report.specs.PairReport.{exchanges_line}

-- the line of exchanges, where they are to be shown
abbrev pub shown_number : Option ℕ → List ℕ
shown_number None = []
shown_number (Some number) = exchanges_line number
