-- What is owed goes on first, then the reply.
use Rattle.std.proofs.Common.{◌++◌, ◌∙◌, ap, sym}
use Rattle.frame_player.specs.declared.deed.Deed.TheVariants as deed
use Rattle.frame_player.specs.Deed.{command_of}
use Rattle.frame_player.specs.Outlet.{outlet_of}
use Rattle.frame_player.specs.Owed.{owed}
use Rattle.frame_player.specs.Player.{world_of, live_in}
use Rattle.play_rules.specs.World.{reply}
use Rattle.frame_player.proofs.OwedAnswers.{reply_sent, reply_stopped}
use Rattle.frame_player.proofs.obeying.obey.Goals as goal

pub returns-in_err-settle-in-Nearest-clause-sent : goal.returns-in_err-settle-in-Nearest-clause-sent
returns-in_err-settle-in-Nearest-clause-sent g c =
    let at = outlet_of g.K.Sink.written g.K.Sink.faults g.K.Sink.since in
    let w = world_of c.args.player.now.version c.args.player.now.world in
    let start = c.args.out.now.text.now.items ++ owed (live_in c.args.player.now.world) c.args.run.now in
    let now = c.settle.new in
    let fault = c.in_err-settle-in-Nearest in
    let carried = c.from_residual in (
      fault.ensures.sent.0,
      reply_stopped (at c.args.out.now) (at now.out) start (reply c.args.setup.now.options.exchanges w c.args.command.now)
          (now.out.text.now.items ++ owed (live_in c.args.player.now.world) now.run) carried.result fault.field-0.0 carried.ensures.1
          fault.ensures.sent.1,
    )

pub returns-in_ok-settle-in-Nearest-clause-sent : goal.returns-in_ok-settle-in-Nearest-clause-sent
returns-in_ok-settle-in-Nearest-clause-sent g c =
    let at = outlet_of g.K.Sink.written g.K.Sink.faults g.K.Sink.since in
    let w = world_of c.args.player.now.version c.args.player.now.world in
    let start = c.args.out.now.text.now.items ++ owed (live_in c.args.player.now.world) c.args.run.now in
    let now = c.settle.new in
    let settled = c.in_ok-settle-in-Nearest.ensures in
    let replied = c.send_nearest.ensures.sent in (
      replied.0 ∙ settled.sent.0,
      reply_sent (at c.args.out.now) (at now.out) (at c.send_nearest.new.out) w c.args.setup.now.options.exchanges
          (command_of (deed.Nearest c.in-Nearest.query)) c.args.command.now start now.out.text.now.items c.send_nearest.new.out.text.now.items
          (live_in c.args.player.now.world) now.run.asked.items c.send_nearest.result settled.sent.1 replied.1 settled.asked
          (ap command_of (sym c.in-Nearest.is) ∙ c.of.ensures),
    )

pub returns-in_err-settle-in-EndFrame-clause-sent : goal.returns-in_err-settle-in-EndFrame-clause-sent
returns-in_err-settle-in-EndFrame-clause-sent g c =
    let at = outlet_of g.K.Sink.written g.K.Sink.faults g.K.Sink.since in
    let w = world_of c.args.player.now.version c.args.player.now.world in
    let start = c.args.out.now.text.now.items ++ owed (live_in c.args.player.now.world) c.args.run.now in
    let now = c.settle-in-EndFrame.new in
    let fault = c.in_err-settle-in-EndFrame in
    let carried = c.from_residual-in_err-settle-in-EndFrame in (
      fault.ensures.sent.0,
      reply_stopped (at c.args.out.now) (at now.out) start (reply c.args.setup.now.options.exchanges w c.args.command.now)
          (now.out.text.now.items ++ owed (live_in c.args.player.now.world) now.run) carried.result fault.field-0.0 carried.ensures.1
          fault.ensures.sent.1,
    )

pub returns-in_ok-settle-in-EndFrame-clause-sent : goal.returns-in_ok-settle-in-EndFrame-clause-sent
returns-in_ok-settle-in-EndFrame-clause-sent g c =
    let at = outlet_of g.K.Sink.written g.K.Sink.faults g.K.Sink.since in
    let w = world_of c.args.player.now.version c.args.player.now.world in
    let start = c.args.out.now.text.now.items ++ owed (live_in c.args.player.now.world) c.args.run.now in
    let now = c.settle-in-EndFrame.new in
    let settled = c.in_ok-settle-in-EndFrame.ensures in
    let replied = c.end_frame.ensures.sent in (
      replied.0 ∙ settled.sent.0,
      reply_sent (at c.args.out.now) (at now.out) (at c.end_frame.new.out) w c.args.setup.now.options.exchanges
          (command_of (deed.EndFrame)) c.args.command.now start now.out.text.now.items c.end_frame.new.out.text.now.items
          (live_in c.end_frame.new.self.world) now.run.asked.items c.end_frame.result settled.sent.1 replied.1 settled.asked
          (ap command_of (sym c.in-EndFrame.is) ∙ c.of.ensures),
    )

pub returns-in_err-settle-in-Change-clause-sent : goal.returns-in_err-settle-in-Change-clause-sent
returns-in_err-settle-in-Change-clause-sent g c =
    let at = outlet_of g.K.Sink.written g.K.Sink.faults g.K.Sink.since in
    let w = world_of c.args.player.now.version c.args.player.now.world in
    let start = c.args.out.now.text.now.items ++ owed (live_in c.args.player.now.world) c.args.run.now in
    let now = c.settle-in-Change.new in
    let fault = c.in_err-settle-in-Change in
    let carried = c.from_residual-in_err-settle-in-Change in (
      fault.ensures.sent.0,
      reply_stopped (at c.args.out.now) (at now.out) start (reply c.args.setup.now.options.exchanges w c.args.command.now)
          (now.out.text.now.items ++ owed (live_in c.args.player.now.world) now.run) carried.result fault.field-0.0 carried.ensures.1
          fault.ensures.sent.1,
    )

pub returns-in_ok-settle-in-Change-clause-sent : goal.returns-in_ok-settle-in-Change-clause-sent
returns-in_ok-settle-in-Change-clause-sent g c =
    let at = outlet_of g.K.Sink.written g.K.Sink.faults g.K.Sink.since in
    let w = world_of c.args.player.now.version c.args.player.now.world in
    let start = c.args.out.now.text.now.items ++ owed (live_in c.args.player.now.world) c.args.run.now in
    let now = c.settle-in-Change.new in
    let settled = c.in_ok-settle-in-Change.ensures in
    let replied = c.send_change.ensures.sent c.args.setup.now.options.exchanges in (
      replied.0 ∙ settled.sent.0,
      reply_sent (at c.args.out.now) (at now.out) (at c.send_change.new.out) w c.args.setup.now.options.exchanges
          (command_of (deed.Change c.in-Change.change)) c.args.command.now start now.out.text.now.items c.send_change.new.out.text.now.items
          (live_in c.send_change.new.player.world) now.run.asked.items c.send_change.result settled.sent.1 replied.1 settled.asked
          (ap command_of (sym c.in-Change.is) ∙ c.of.ensures),
    )
