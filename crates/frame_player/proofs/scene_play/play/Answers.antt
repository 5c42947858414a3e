-- The text is written as far as it goes, and the status follows from how that ended.
use Rattle.std.proofs.Common.{◌++◌, rules, subst, sym}
use Rattle.play_rules.specs.Outcome.{ends, IsOutcome}
use Rattle.play_rules.specs.OutcomeLaws.{uncalled_ends}
use Rattle.play_rules.specs.Play.{played}
use Rattle.frame_player.specs.Ending.{ended, last_line, status_of}
use Rattle.frame_player.specs.Outlet.{outlet_of}
use Rattle.frame_player.specs.Owed.{owed}
use Rattle.frame_player.specs.Player.{live_in}
use Rattle.frame_player.proofs.Outcomes.{final_sink, play_ended}
use Rattle.frame_player.proofs.scene_play.play.Goals as goal

pub returns-in_default-clause-outcome : goal.returns-in_default-clause-outcome
returns-in_default-clause-outcome g c =
    uncalled_ends (played c.args.options.exchanges c.args.limits.lines)
    (ends (g.S.Source.left c.args.source.now) (g.S.Source.faults c.args.source.now) (g.K.Sink.written c.args.sink.now)
    (g.K.Sink.settled c.args.sink.now) (g.K.Sink.faults c.args.sink.now))

pub returns-in-Ok-play_lines-clause-outcome : goal.returns-in-Ok-play_lines-clause-outcome
returns-in-Ok-play_lines-clause-outcome g c =
    let play = played c.args.options.exchanges c.args.limits.lines in
    let last = c.in-Ok-play_lines.last in
    let before = (ends (g.S.Source.left c.args.source.now) (g.S.Source.faults c.args.source.now) (g.K.Sink.written c.args.sink.now)
    (g.K.Sink.settled c.args.sink.now) (g.K.Sink.faults c.args.sink.now)) in
    let sink = c.finish-sent.new.out.sink.now in
    let now = (ends (g.S.Source.left c.play_lines.new.source) (g.S.Source.faults c.play_lines.new.source) (g.K.Sink.written sink)
    (g.K.Sink.settled sink) (g.K.Sink.faults sink)) in
    final_sink (λ k. IsOutcome play before (ends (g.S.Source.left c.play_lines.new.source) (g.S.Source.faults c.play_lines.new.source)
    (g.K.Sink.written k) (g.K.Sink.settled k) (g.K.Sink.faults k)) c.ended.result) sink
    (subst (IsOutcome play before now) (sym c.ended.ensures.status)
    (subst (λ s. IsOutcome play before now (ended s c.finish-sent.result)) (sym c.status.ensures)
    (play_ended play before now (g.K.Sink.since c.args.sink.now) (g.K.Sink.since sink)
    (outlet_of g.K.Sink.written g.K.Sink.faults g.K.Sink.since c.play_lines.new.out)
    (c.play_lines.new.out.text.now.items ++ owed (live_in c.play_lines.new.player.world) c.play_lines.new.run) (last_line last) (status_of last)
    c.finish-sent.result (c.replies_begin_report.ensures c.args.options.exchanges c.args.limits.lines) c.in-Ok-play_lines.ensures.said
    c.in-Ok-play_lines.ensures.count c.finish-sent.ensures.sent.1 c.finish-sent.ensures.settled c.requires.sink_count))) (search rules)
