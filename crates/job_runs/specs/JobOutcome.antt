-- How a command line's job may end.
use Rattle.std.specs.Prelude.{◌≡◌, Bool, true, false, Option, Some, None, IfSome}
use Rattle.scene_lines.specs.SceneLines.{lines}
use Rattle.scene_lines.specs.declared.TheConstants.{MOST_LINES}
use Rattle.play_rules.specs.declared.status.Status.{Status}
use Rattle.play_rules.specs.declared.status.Status.TheVariants.{Done, Usage}
use Rattle.play_rules.specs.Outcome.{Ends, IsOutcome}
use Rattle.play_rules.specs.Course.{whole}
use Rattle.play_rules.specs.Play.{played, report}
use Rattle.play_rules.specs.Upgrade.{upgraded}
use Rattle.scene_drill.specs.declared.load.Load.{Load}
use Rattle.scene_drill.specs.Drill.{Output, output, drill_text, IsDrilled}
use Rattle.job_runs.specs.declared.words.Job.{Job}
use Rattle.job_runs.specs.declared.words.Task.{Task}
use Rattle.job_runs.specs.declared.words.Task.TheVariants.{Play, Drill, Upgrade}

-- the sink's end alone
abbrev pub sink_end : Ends → Output
sink_end e = output e.written e.settled e.write_faults

-- A drill ended as its status says, and the source is as it was.
pub record IsDrillDone (load : Load) (shows : Bool) (before now : Ends) (status : Status) : Type 0 where
  pub drilled : IsDrilled (drill_text load shows) (sink_end before) (sink_end now) status
  pub left : now.left ≡ before.left
  pub unread : now.read_faults ≡ before.read_faults

-- An upgrade ended as its status says, and a scene that was written whole has the report of the one that was given, whatever is shown.
pub record IsUpgradeDone (before now : Ends) (status : Status) : Type 0 where
  pub outcome : IsOutcome (upgraded MOST_LINES) before now status
  pub alike : status ≡ Done → IfSome before.left (λ given. (shows : Bool)
      → report shows MOST_LINES (lines (whole (upgraded MOST_LINES (lines given true))) true) ≡ report shows MOST_LINES (lines given true))

-- What each status says of a task. Frames end with their exchanges where `shows` asks for it. A play's report is the one of the lines
-- that the source has left; a drill's text is the summary of the report of the scene that it makes; an upgrade's is the scene as one of
-- version 2.
abbrev pub IsTaskDone : Task → Bool → Ends → Ends → Status → Type 0
IsTaskDone Play shows before now status = IsOutcome (played shows MOST_LINES) before now status
IsTaskDone (Drill seed boxes frames) shows before now status =
    IsDrillDone (record { seed = seed; boxes = boxes; frames = frames }) shows before now status
IsTaskDone Upgrade shows before now status = IsUpgradeDone before now status

-- A command line without a meaning touches nothing.
abbrev pub IsJobDone : Option Job → Ends → Ends → Status → Type 0
IsJobDone None before now status = (status ≡ Usage) × (now ≡ before)
IsJobDone (Some job) before now status = IsTaskDone job.task job.options.exchanges before now status

abbrev pub is_drill : Task → Bool
is_drill Play = false
is_drill (Drill seed boxes frames) = true
is_drill Upgrade = false

-- whether a job reads no source
abbrev pub reads_nothing : Option Job → Bool
reads_nothing None = true
reads_nothing (Some job) = is_drill job.task
