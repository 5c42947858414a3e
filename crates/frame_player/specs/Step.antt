-- What comes next of a scene's bytes.
use Rattle.std.specs.Prelude.{◌≡◌, ℕ, ◌+◌, ◌≤◌, Bool, true, false, List, [], ◌∷◌, ◌++◌, length, take}
use Rattle.std.specs.Prelude.{Option, Some, None, Result, Ok, Err}
use Rattle.std.specs.List.{count_by}
use Rattle.pair_report.specs.declared.cause.Cause.{Cause}
use Rattle.scene_lines.specs.declared.TheConstants.{LONGEST_LINE}
use Rattle.scene_lines.specs.Reading.{coming}
use Rattle.scene_lines.specs.SceneLines.{lines, is_feed, length_ahead, line_ahead, past_line}
use Rattle.scene_words.specs.declared.command.Command.{Command}
use Rattle.scene_words.specs.declared.version.Version.{Version}
use Rattle.frame_player.specs.declared.step.Step.{Step}
use Rattle.frame_player.specs.declared.step.Step.TheVariants as what
use Rattle.play_rules.specs.Course.{within_limits}
use Rattle.play_rules.specs.Readable.{readable, unless_full}

-- a command that passes, or the cause why it doesn't
abbrev pub passes_unless : Command → Option Cause → Result Command Cause
passes_unless c None = Ok c
passes_unless c (Some why) = Err why

-- what line number n comes to, by what it says
abbrev pub step_for : ℕ → Result Command Cause → Step
step_for n (Ok command) = what.Command command
step_for n (Err c) = what.Refused n c

-- The first line of the bytes, which has number n, comes to this, and the lines past it follow.
pub record Line (version : Option Version) (live limit n : ℕ) (bytes : List ℕ) (s : Step) : Type 0 where
  pub first : lines bytes true ≡ line_ahead bytes ∷ lines (past_line bytes) true
  pub is : s ≡ step_for n (within_limits limit n (line_ahead bytes) (unless_full live (readable version (line_ahead bytes))))

-- what an answer says of the bytes that are coming, where line number n comes next
abbrev pub IsStepOf : Option Version → ℕ → ℕ → ℕ → List ℕ → Step → Type 0
IsStepOf version live limit n bytes (what.Command c) = Line version live limit n bytes (what.Command c)
IsStepOf version live limit n bytes (what.Refused k c) = Line version live limit n bytes (what.Refused k c)
IsStepOf version live limit n bytes (what.End k) = (k + 1 ≡ n) × (bytes ≡ [])
IsStepOf version live limit n bytes what.ReadFault = ⊥

-- The first line of the bytes with its end, and how the lines go on behind it: whatever follows, where the input isn't over.
pub record IsPast (bytes : List ℕ) (over : Bool) : Type 0 where
  pub one_feed : count_by is_feed (take (length_ahead bytes + 1) bytes) ≤ 1
  pub ended : over ≡ false → (more : List ℕ) → lines (take (length_ahead bytes + 1) bytes ++ more) false ≡ line_ahead bytes ∷ lines more false

-- No more bytes were handed out than those of one line with its end: what was coming is these, those held, and those left.
pub record IsAhead (before : Option (List ℕ)) (held : List ℕ) (left : Option (List ℕ)) : Type 0 where
  pub cut : List ℕ
  pub few : length cut ≤ LONGEST_LINE + 2
  pub split : before ≡ coming (cut ++ held) left

-- a fact of a command
abbrev pub IfCommand : Step → (Command → Type 0) → Type 0
IfCommand (what.Command c) P = P c
IfCommand other P = Unit {0}

-- a fact of the number of lines, where the input ends
abbrev pub IfEnd : Step → (ℕ → Type 0) → Type 0
IfEnd (what.End k) P = P k
IfEnd other P = Unit {0}

-- a fact where a command comes
abbrev pub OnCommand : Step → Type 0 → Type 0
OnCommand (what.Command c) P = P
OnCommand other P = Unit {0}

-- a fact where a line is refused
abbrev pub OnRefused : Step → Type 0 → Type 0
OnRefused (what.Refused k c) P = P
OnRefused other P = Unit {0}

-- a fact where no line comes
abbrev pub OnStop : Step → Type 0 → Type 0
OnStop (what.End k) P = P
OnStop what.ReadFault P = P
OnStop other P = Unit {0}

-- a fact where a read failed
abbrev pub OnReadFault : Step → Type 0 → Type 0
OnReadFault what.ReadFault P = P
OnReadFault other P = Unit {0}

-- a fact where no read failed
abbrev pub UnlessReadFault : Step → Type 0 → Type 0
UnlessReadFault what.ReadFault P = Unit {0}
UnlessReadFault other P = P
