-- What comes next of the bytes that are coming, and what an answer says.
use Rattle.std.specs.Prelude.{ℕ, ◌+◌, Bool, true, false, ◌==◌, nat_le, nat_lt, List, length, if◌then◌else◌}
use Rattle.scene_lines.specs.declared.next.Next.{Next}
use Rattle.scene_lines.specs.declared.next.Next.TheVariants.{Line, End, Long, TooMany, ReadFault}
use Rattle.scene_lines.specs.SceneLines.{line_ahead}
use Rattle.scene_lines.specs.declared.TheConstants.{LONGEST_LINE}

-- The answer after so many lines, where these bytes come and then the input ends. A line past the limit is refused whatever its length.
abbrev pub answer_at : ℕ → ℕ → List ℕ → Next
answer_at limit number bytes =
    if length bytes == 0 then End else if nat_le limit number then TooMany else if nat_lt LONGEST_LINE (length (line_ahead bytes)) then Long else Line

-- the number of the last line, or of the line refused
abbrev pub number_after : Next → ℕ → ℕ
number_after Line number = number + 1
number_after Long number = number + 1
number_after TooMany number = number + 1
number_after End number = number
number_after ReadFault number = number

-- each answer but a line is the last
abbrev pub is_last : Next → Bool
is_last Line = false
is_last End = true
is_last Long = true
is_last TooMany = true
is_last ReadFault = true

-- a fact where a line is handed out
abbrev pub OnLine : Next → Type 0 → Type 0
OnLine Line P = P
OnLine _ P = Unit {0}

-- a fact where none is
abbrev pub OnLast : Next → Type 0 → Type 0
OnLast Line P = Unit {0}
OnLast _ P = P

-- a fact where a read failed
abbrev pub OnFault : Next → Type 0 → Type 0
OnFault ReadFault P = P
OnFault _ P = Unit {0}

-- a fact where no read failed
abbrev pub UnlessFault : Next → Type 0 → Type 0
UnlessFault ReadFault P = Unit {0}
UnlessFault _ P = P
