-- What the lines of a scene come to, by what is done with each.
use Rattle.std.specs.Prelude.{ℕ, ◌+◌, ◌-◌, Bool, true, false, nat_lt, List, [], ◌∷◌, ◌++◌, length, if◌then◌else◌, Result, Ok, Err}
use Rattle.pair_report.specs.declared.cause.Cause.{Cause}
use Rattle.pair_report.specs.declared.cause.Cause.TheVariants as cause
use Rattle.scene_lines.specs.declared.TheConstants.{LONGEST_LINE}
use Rattle.scene_words.specs.declared.command.Command.{Command}
use Rattle.play_rules.specs.declared.status.Status.{Status}
use Rattle.play_rules.specs.declared.status.Status.TheVariants.{Done, Refused}

-- The texts of lines in order, the line after them, how they end, and whether each line passed.
pub record Played : Type 0 where
  pub replies : List ℕ
  pub last : List ℕ
  pub status : Status
  pub passed : Bool

-- What is done with each line in a state: what it asks for, or why it is refused, its text and the state after it; whether a
-- header came; and the last line where the input ends, or where a line is refused.
pub record Course (W : Type 0) : Type 0 where
  pub asks : W → List ℕ → Result Command Cause
  pub text : W → Command → List ℕ
  pub after : W → Command → W
  pub is_begun : W → Bool
  pub last : W → ℕ → List ℕ
  pub last_refused : ℕ → Cause → List ℕ

-- The limits on the number of lines and on their length come first.
unfoldable pub within_limits : ℕ → ℕ → List ℕ → Result Command Cause → Result Command Cause
within_limits limit n line said =
    if nat_lt limit n then Err cause.Lines
    else (if nat_lt LONGEST_LINE (length line) then Err cause.Long else said)

-- at line number n, which is refused
abbrev pub refused_at : {W : Type 0} → Course W → ℕ → Cause → Played
refused_at course n c = record { replies = []; last = course.last_refused n c; status = Refused n c; passed = false }

-- where line number n would begin, and the input has ended
abbrev pub ended_at : {W : Type 0} → Course W → W → ℕ → Played
ended_at course w n =
    if course.is_begun w then record { replies = []; last = course.last w (n - 1); status = Done; passed = true }
    else record (refused_at course n cause.Header) { passed = true }

-- a text before what follows
abbrev pub reply_first : List ℕ → Played → Played
reply_first text p = record p { replies = text ++ p.replies }

-- what line number n comes to in a state, and what follows it
abbrev pub step : {W : Type 0} → Course W → W → ℕ → Result Command Cause → (W → Played) → Played
step course w n (Err c) rest = refused_at course n c
step course w n (Ok command) rest = reply_first (course.text w command) (rest (course.after w command))

-- Lines, the first of which has number n, up to the first that is refused. At most `limit` lines may come.
abbrev pub run_from : {W : Type 0} → Course W → ℕ → W → ℕ → List (List ℕ) → Played
run_from course limit w n [] = ended_at course w n
run_from course limit w n (line ∷ more) =
    step course w n (within_limits limit n line (course.asks w line)) (λ next. run_from course limit next (n + 1) more)

-- all of the text
abbrev pub whole : Played → List ℕ
whole p = p.replies ++ p.last
