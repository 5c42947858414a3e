-- Where memory runs out before the text is there, the sink is as it was.
use Rattle.std.proofs.Common.{Some, [], refl}
use Rattle.play_rules.specs.OutcomeLaws.{nothing_begun}
use Rattle.scene_drill.specs.Drill.{drill_text}
use Rattle.scene_drill.proofs.drilling.drill.Goals as goal

pub returns-in_default-clause-outcome : goal.returns-in_default-clause-outcome
returns-in_default-clause-outcome g c = record {
  unfailed = refl;
  begun = nothing_begun (Some []) (g.K.Sink.written c.args.sink.now) (λ _. drill_text c.args.job.load c.args.job.options.exchanges);
}
