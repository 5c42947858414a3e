-- The text is written as far as it goes, and the status follows from how that ended.
use Rattle.std.proofs.Common.{None, rules, subst, sym}
use Rattle.play_rules.specs.Outcome.{ends, IsOutcome}
use Rattle.play_rules.specs.Upgrade.{upgrading, upgraded}
use Rattle.frame_player.proofs.ReachedLaws.{run_begins}
use Rattle.frame_player.specs.Outlet.{outlet_of}
use Rattle.frame_player.proofs.Outcomes.{final_sink, run_ended}
use Rattle.frame_player.proofs.scene_upgrade.upgrade.Goals as goal

pub returns-in-Ok-clause-outcome : goal.returns-in-Ok-clause-outcome
returns-in-Ok-clause-outcome g c =
    let play = upgraded c.args.limits.lines in
    let before = (ends (g.S.Source.left c.args.source.now) (g.S.Source.faults c.args.source.now) (g.K.Sink.written c.args.sink.now)
    (g.K.Sink.settled c.args.sink.now) (g.K.Sink.faults c.args.sink.now)) in
    let sink = c.write_rest-sent.new.self.sink.now in
    let now = (ends (g.S.Source.left c.upgrade_lines.new.source) (g.S.Source.faults c.upgrade_lines.new.source) (g.K.Sink.written sink)
    (g.K.Sink.settled sink) (g.K.Sink.faults sink)) in
    final_sink (λ k. IsOutcome play before (ends (g.S.Source.left c.upgrade_lines.new.source) (g.S.Source.faults c.upgrade_lines.new.source)
    (g.K.Sink.written k) (g.K.Sink.settled k) (g.K.Sink.faults k)) c.ended.result) sink
    (subst (IsOutcome play before now) (sym c.ended.ensures.status)
    (run_ended play before now (g.K.Sink.since c.args.sink.now) (g.K.Sink.since sink)
    (outlet_of g.K.Sink.written g.K.Sink.faults g.K.Sink.since c.upgrade_lines.new.out) c.upgrade_lines.new.out.text.now.items c.in-Ok.status
    c.write_rest-sent.result (run_begins upgrading c.args.limits.lines None c.line_laws.ensures.prefix) c.in-Ok.ensures.said c.in-Ok.ensures.count
    c.write_rest-sent.ensures.sent.1 c.write_rest-sent.ensures.settled c.requires.sink_count)) (search rules)
