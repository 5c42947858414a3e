-- How a task ends that touched neither end.
use Rattle.std.proofs.Common.{Bool, [], refl}
use Rattle.play_rules.specs.declared.status.Status.TheVariants.{NoMemory}
use Rattle.play_rules.specs.Outcome.{Ends}
use Rattle.play_rules.specs.OutcomeLaws.{append_known-nil, uncalled_ends}
use Rattle.play_rules.specs.Play.{played}
use Rattle.play_rules.specs.Upgrade.{upgraded}
use Rattle.scene_lines.specs.declared.TheConstants.{MOST_LINES}
use Rattle.job_runs.specs.declared.words.Task.{Task}
use Rattle.job_runs.specs.declared.words.Task.TheVariants.{Play, Drill, Upgrade}
use Rattle.job_runs.specs.JobOutcome.{IsTaskDone}

pub uncalled_task : (task : Task) (shows : Bool) (here : Ends) → IsTaskDone task shows here here NoMemory
uncalled_task Play shows here = uncalled_ends (played shows MOST_LINES) here
uncalled_task (Drill seed boxes frames) shows here = record {
  drilled = record { unfailed = refl; begun = record { part = []; prefix = (_, refl); written = append_known-nil here.written } };
  left = refl;
  unread = refl;
}
uncalled_task Upgrade shows here = record { outcome = uncalled_ends (upgraded MOST_LINES) here; alike = λ done. absurd (cc) }
