-- What is owed goes on, and then all that is held.
use Rattle.std.proofs.Common.{◌++◌, ◌∙◌, [], refl}
use Rattle.frame_player.specs.Ending.{last_line}
use Rattle.frame_player.specs.Outlet.{outlet_of}
use Rattle.frame_player.specs.Owed.{owed}
use Rattle.frame_player.specs.Player.{live_in}
use Rattle.frame_player.proofs.Sending.{handed_more, out_of_memory_after, sent_as, sent_on, stopped_more, stopped_so}
use Rattle.frame_player.proofs.scene_play.finish.Goals as goal

pub returns-in_err-settle-clause-sent : goal.returns-in_err-settle-clause-sent
returns-in_err-settle-clause-sent g c =
    let at = outlet_of g.K.Sink.written g.K.Sink.faults g.K.Sink.since in
    let start = c.args.out.now.text.now.items ++ owed (live_in c.args.player.now.world) c.args.run.now in (
      c.in_err-settle.ensures.sent.0,
      stopped_so (at c.args.out.now) (at c.settle.new.out) (start ++ last_line c.args.last) [] c.from_residual.result c.in_err-settle.field-0.0
          c.from_residual.ensures.1
          (stopped_more (at c.args.out.now) (at c.settle.new.out) start (last_line c.args.last) c.in_err-settle.field-0.0 c.in_err-settle.ensures.sent.1),
    )

pub returns-in_err-put-clause-sent : goal.returns-in_err-put-clause-sent
returns-in_err-put-clause-sent g c =
    let at = outlet_of g.K.Sink.written g.K.Sink.faults g.K.Sink.since in (
      c.in_ok-settle.ensures.sent.0,
      out_of_memory_after (at c.args.out.now) (at c.settle.new.out)
          (c.args.out.now.text.now.items ++ owed (live_in c.args.player.now.world) c.args.run.now)
          c.settle.new.out.text.now.items (last_line c.args.last) [] c.from_residual-in_err-put.result c.in_ok-settle.ensures.sent.1
          c.from_residual-in_err-put.ensures.1,
    )

pub returns-clause-sent : goal.returns-clause-sent
returns-clause-sent g c =
    let at = outlet_of g.K.Sink.written g.K.Sink.faults g.K.Sink.since in
    let start = c.args.out.now.text.now.items ++ owed (live_in c.args.player.now.world) c.args.run.now in
    let held = c.settle.new.out.text.now.items in
    let last = last_line c.args.last in (
      c.write_rest.ensures.sent.0 ∙ c.in_ok-settle.ensures.sent.0,
      sent_on (at c.args.out.now) (at c.settle.new.out) (at c.write_rest.new.self) (start ++ last) (held ++ last) [] c.write_rest.result
          (handed_more (at c.args.out.now) (at c.settle.new.out) start held last c.in_ok-settle.ensures.sent.1)
          (sent_as (at c.settle.new.out) (at c.write_rest.new.self) c.put.new.text.items [] (held ++ last) [] c.write_rest.result
          c.in_ok-put.ensures.ok refl c.write_rest.ensures.sent.1),
    )
