-- A reader of lines, and its buffer, as clauses see them.
use Rattle.std.specs.Prelude.{◌≡◌, ℕ, ◌+◌, ◌≤◌, Bool, false, List, length, Option}
use Rattle.std.specs.Io.KnownBytes.{prepend_known}
use Rattle.scene_lines.specs.declared.TheConstants.{MOST_LINES, LONGEST_LINE, BUFFER_LEN}

-- the last line handed out, the bytes taken from a source and not handed out, and whether a read has answered the end of the input
pub record Buffered : Type 0 where
  pub line : List ℕ
  pub held : List ℕ
  pub over : Bool

-- the same of a reader, with how many lines it may hand out, the number of the last line and whether it has stopped
pub record Reading : Type 0 where
  pub limit : ℕ
  pub line : List ℕ
  pub number : ℕ
  pub ended : Bool
  pub over : Bool
  pub held : List ℕ

-- What every reader keeps. The number of a line handed out is within the limit, and that of a line refused at most one past it.
pub record IsSound (r : Reading) : Type 0 where
  pub limit : r.limit ≤ MOST_LINES
  pub number : r.number ≤ r.limit + 1
  pub going_on : r.ended ≡ false → r.number ≤ r.limit
  pub line : length r.line ≤ LONGEST_LINE
  pub held : length r.held ≤ BUFFER_LEN

-- the bytes not handed out: those held, and those that a source has left, where it tells them
abbrev pub coming : List ℕ → Option (List ℕ) → Option (List ℕ)
coming held left = prepend_known held left
