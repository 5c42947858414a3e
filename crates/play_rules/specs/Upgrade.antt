-- A scene written as one of version 2.
use Rattle.std.specs.Prelude.{ℕ, List, [], is_some, Option, Some, None}
use Rattle.scene_words.specs.declared.command.Command.{Command}
use Rattle.scene_words.specs.declared.command.Command.TheVariants.{Header}
use Rattle.scene_words.specs.declared.version.Version.{Version}
use Rattle.scene_words.specs.declared.version.Version.TheVariants.{Two}
use Rattle.scene_words.specs.Printed.{line_of}
use Rattle.play_rules.specs.Course.{Course, Played, run_from}
use Rattle.play_rules.specs.Readable.{readable}

-- the version after a command
abbrev pub version_after : Option Version → Command → Option Version
version_after v (Header version) = Some version
version_after v other = v

-- a command of version 2
abbrev pub as_two : Command → Command
as_two (Header version) = Header Two
as_two other = other

-- Each line is printed as a line of version 2, read under the version that the last header named. Nothing is written behind the last one.
abbrev pub upgrading : Course (Option Version)
upgrading = record {
  asks = readable;
  text = λ v c. line_of (as_two c);
  after = version_after;
  is_begun = is_some;
  last = λ v n. [];
  last_refused = λ n c. [];
}

-- what a scene's lines are upgraded to
abbrev pub upgraded : ℕ → List (List ℕ) → Played
upgraded limit scene = run_from upgrading limit None 1 scene
