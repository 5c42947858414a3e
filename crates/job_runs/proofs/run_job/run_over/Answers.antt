-- Where there was no memory for the structure, nothing was read and nothing written. A drill calls the sink alone.
use Rattle.std.proofs.Common.{refl}
use Rattle.play_rules.specs.Outcome.{ends}
use Rattle.job_runs.proofs.TaskOutcomes.{uncalled_task}
use Rattle.job_runs.proofs.run_job.run_over.Goals as goal

pub returns-in_default-made-clause-outcome : goal.returns-in_default-made-clause-outcome
returns-in_default-made-clause-outcome g c =
    uncalled_task c.args.job.task c.args.job.options.exchanges
    (ends (g.S.Source.left c.args.source.now) (g.S.Source.faults c.args.source.now) (g.K.Sink.written c.args.sink.now)
    (g.K.Sink.settled c.args.sink.now) (g.K.Sink.faults c.args.sink.now))

pub returns-in-Ok-made-clause-outcome : goal.returns-in-Ok-made-clause-outcome
returns-in-Ok-made-clause-outcome g c = rw c.in-Drill.is (record { drilled = c.drill.ensures.outcome; left = refl; unread = refl })
