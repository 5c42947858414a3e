-- How a play may end, and what it has read and written then: the table of the statuses.
use Rattle.std.specs.Prelude.{◌≡◌, ℕ, ◌+◌, ◌-◌, ◌<◌, true, false, List, [], take, length, Option, Some, IfSome, option_map}
use Rattle.std.specs.Io.KnownBytes.{append_known, prepend_known}
use Rattle.std.specs.List.{count_by}
use Rattle.scene_lines.specs.SceneLines.{lines, is_feed, IsPrefix}
use Rattle.scene_lines.specs.declared.TheConstants.{LONGEST_LINE, BUFFER_LEN}
use Rattle.play_rules.specs.declared.status.Status.{Status}
use Rattle.play_rules.specs.declared.status.Status.TheVariants.{Done, Refused, Usage, ReadFault, WriteFault, NoMemory}
use Rattle.play_rules.specs.Course.{Played, whole}

-- The two ends of a play: the bytes that the source has left, those that the sink has written and how many of them are settled,
-- where they tell it, and how often each has failed.
pub record Ends : Type 0 where
  pub left : Option (List ℕ)
  pub read_faults : ℕ
  pub written : Option (List ℕ)
  pub settled : Option ℕ
  pub write_faults : ℕ

abbrev pub ends : Option (List ℕ) → ℕ → Option (List ℕ) → Option ℕ → ℕ → Ends
ends left read_faults written settled write_faults =
    record { left = left; read_faults = read_faults; written = written; settled = settled; write_faults = write_faults }

-- what a source's bytes come to, by what their lines do
abbrev pub of_bytes : (List (List ℕ) → Played) → List ℕ → Played
of_bytes play given = play (lines given true)

-- the first bytes of a text, and nothing else, are written behind what was there
pub record IsBegun (before now : Option (List ℕ)) (text : List ℕ) : Type 0 where
  pub part : List ℕ
  pub prefix : IsPrefix part text
  pub written : now ≡ append_known before part

-- The text is the replies to the lines that end in the bytes taken, which stand before those that are left. Each of them passed.
pub record IsReplyTo (play : List (List ℕ) → Played) (given : List ℕ) (left : Option (List ℕ)) (text : List ℕ) : Type 0 where
  pub taken : List ℕ
  pub split : Some given ≡ prepend_known taken left
  pub replies : text ≡ (play (lines taken false)).replies
  pub passed : (play (lines taken false)).passed ≡ true

-- A play that came to an end of its own: the whole report is written and settled, and nothing failed.
pub record IsReported (play : List (List ℕ) → Played) (before now : Ends) (status : Status) : Type 0 where
  pub ending : IfSome before.left (λ given. (of_bytes play given).status ≡ status)
  pub text : IfSome before.left (λ given. now.written ≡ append_known before.written (whole (of_bytes play given)))
  pub flushed : now.settled ≡ option_map length now.written
  pub unread : now.read_faults ≡ before.read_faults
  pub unwritten : now.write_faults ≡ before.write_faults

-- How many bytes may be taken past the lines before a refused one: those of a reader's buffer, and of the longest line with its end.
abbrev pub READ_AHEAD : ℕ
READ_AHEAD = BUFFER_LEN + (LONGEST_LINE + 2)

-- Where line n is refused, no more was read than that: the bytes taken before hold fewer than n ends of lines.
pub record IsReadUpTo (n : ℕ) (given : List ℕ) (left : Option (List ℕ)) : Type 0 where
  pub taken : List ℕ
  pub split : Some given ≡ prepend_known taken left
  pub few : count_by is_feed (take (length taken - READ_AHEAD) taken) < n

-- what is written after a read fault: all where nothing else failed, and else a part of it
pub record IsRepliedTo (play : List (List ℕ) → Played) (given : List ℕ) (before now : Ends) : Type 0 where
  pub text : List ℕ
  pub replies : IsReplyTo play given now.left text
  pub begun : IsBegun before.written now.written text
  pub all : now.write_faults ≡ before.write_faults → now.written ≡ append_known before.written text

-- A read failed: the replies to the lines that had ended are written and settled, or a part of them where the sink failed too.
pub record IsReadFault (play : List (List ℕ) → Played) (before now : Ends) : Type 0 where
  pub rose : before.read_faults < now.read_faults
  pub text : IfSome before.left (λ given. IsRepliedTo play given before now)
  pub flushed : now.write_faults ≡ before.write_faults → now.settled ≡ option_map length now.written

-- a part of the report is written
abbrev pub IsReportBegun : (List (List ℕ) → Played) → Ends → Ends → Type 0
IsReportBegun play before now = IfSome before.left (λ given. IsBegun before.written now.written (whole (of_bytes play given)))

-- The sink failed, and the source didn't.
pub record IsWriteFault (play : List (List ℕ) → Played) (before now : Ends) : Type 0 where
  pub rose : before.write_faults < now.write_faults
  pub unread : now.read_faults ≡ before.read_faults
  pub begun : IsReportBegun play before now

-- Memory ran out, and the sink didn't fail.
pub record IsCutOff (play : List (List ℕ) → Played) (before now : Ends) : Type 0 where
  pub unwritten : now.write_faults ≡ before.write_faults
  pub begun : IsReportBegun play before now

-- What each status says, where `play` is what the lines of a scene come to.
abbrev pub IsOutcome : (List (List ℕ) → Played) → Ends → Ends → Status → Type 0
IsOutcome play before now Done = IsReported play before now Done × IfSome before.left (λ given. now.left ≡ Some [])
IsOutcome play before now (Refused n c) = IsReported play before now (Refused n c) × IfSome before.left (λ given. IsReadUpTo n given now.left)
IsOutcome play before now Usage = now ≡ before
IsOutcome play before now ReadFault = IsReadFault play before now
IsOutcome play before now WriteFault = IsWriteFault play before now
IsOutcome play before now NoMemory = IsCutOff play before now
