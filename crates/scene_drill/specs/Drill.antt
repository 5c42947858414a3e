-- What a drill writes, and how it may end.
use Rattle.std.specs.Prelude.{◌≡◌, ℕ, ◌<◌, Bool, List, length, true, Option, option_map}
use Rattle.std.specs.Io.KnownBytes.{append_known}
use Rattle.scene_lines.specs.SceneLines.{lines}
use Rattle.scene_lines.specs.declared.TheConstants.{MOST_LINES}
use Rattle.play_rules.specs.declared.status.Status.{Status}
use Rattle.play_rules.specs.declared.status.Status.TheVariants.{Done, WriteFault, NoMemory}
use Rattle.play_rules.specs.Outcome.{IsBegun}
use Rattle.play_rules.specs.Play.{report}
use Rattle.made_scene.specs.MadeScene.{made_text}
use Rattle.scene_drill.specs.Summary.{summary}
use Rattle.scene_drill.specs.declared.load.Load.{Load}

-- The report of the made scene. Frames end with their exchanges where `shows` asks for it.
abbrev pub drill_report : Load → Bool → List ℕ
drill_report load shows = report shows MOST_LINES (lines (made_text load.seed load.boxes load.frames) true)

-- its summary, which is all that a drill writes
abbrev pub drill_text : Load → Bool → List ℕ
drill_text load shows = summary load.boxes load.frames shows (drill_report load shows)

-- A sink: the bytes written and how many of them are settled, where it tells them, and how often it has failed.
pub record Output : Type 0 where
  pub written : Option (List ℕ)
  pub settled : Option ℕ
  pub faults : ℕ

abbrev pub output : Option (List ℕ) → Option ℕ → ℕ → Output
output written settled faults = record { written = written; settled = settled; faults = faults }

-- The whole text is written and settled, and nothing failed.
pub record IsWhole (text : List ℕ) (before now : Output) : Type 0 where
  pub whole : now.written ≡ append_known before.written text
  pub flushed : now.settled ≡ option_map length now.written
  pub unfailed : now.faults ≡ before.faults

-- The sink failed, and a part of the text is written.
pub record IsFailed (text : List ℕ) (before now : Output) : Type 0 where
  pub rose : before.faults < now.faults
  pub begun : IsBegun before.written now.written text

-- Memory ran out, the sink didn't fail, and a part of the text is written.
pub record IsCutOff (text : List ℕ) (before now : Output) : Type 0 where
  pub unfailed : now.faults ≡ before.faults
  pub begun : IsBegun before.written now.written text

-- What each status says of the sink. No other status comes: a made scene is never refused, and nothing is read.
abbrev pub IsDrilled : List ℕ → Output → Output → Status → Type 0
IsDrilled text before now Done = IsWhole text before now
IsDrilled text before now WriteFault = IsFailed text before now
IsDrilled text before now NoMemory = IsCutOff text before now
IsDrilled text before now _ = ⊥
