-- The line of the frame goes on, then those of its events, then that of its exchanges.
use Rattle.std.proofs.Common.{◌++◌, ◌∙◌, flat_map, refl}
use Rattle.pair_report.specs.PairReport.{frame_line, told_line}
use Rattle.frame_player.specs.FrameText.{shown_number}
use Rattle.frame_player.specs.Outlet.{outlet_of}
use Rattle.frame_player.proofs.Sending.{handed_first, stopped_first, sent_next, stopped_next, stopped_so, sent_on}
use Rattle.frame_player.proofs.frame_text.send_frame.Goals as goal

pub returns-in_err-hand_on : goal.returns-in_err-hand_on
returns-in_err-hand_on g c =
    let at = outlet_of g.K.Sink.written g.K.Sink.faults g.K.Sink.since in
    let first = frame_line c.args.number c.args.pairs in
    let later = flat_map told_line c.args.events ++ shown_number c.args.exchanges in
    let text = c.args.out.now.text.now.items in (
      c.in_err-hand_on.ensures.0,
      stopped_so (at c.args.out.now) (at c.hand_on.new.self) (text ++ (first ++ later)) c.hand_on.new.self.text.now.items c.from_residual-in_err-hand_on.result
          c.in_err-hand_on.field-0.0 c.from_residual-in_err-hand_on.ensures.1
          (stopped_first (at c.args.out.now) (at c.hand_on.new.self) text c.put_frame.new.out.items first later c.in_err-hand_on.field-0.0
          c.in_ok-put_frame.ensures.ok c.in_err-hand_on.ensures.1),
    )

pub returns-in_err-send_events : goal.returns-in_err-send_events
returns-in_err-send_events g c =
    let at = outlet_of g.K.Sink.written g.K.Sink.faults g.K.Sink.since in
    let first = frame_line c.args.number c.args.pairs in
    let lines = flat_map told_line c.args.events in
    let last = shown_number c.args.exchanges in
    let text = c.args.out.now.text.now.items in
    let start = text ++ (first ++ (lines ++ last)) in
    let held = c.hand_on.new.self.text.now.items in (
      c.in_err-send_events.ensures.0 ∙ c.in_ok-hand_on.ensures.0,
      stopped_so (at c.args.out.now) (at c.send_events.new.out) start c.send_events.new.out.text.now.items c.from_residual-in_err-send_events.result
          c.in_err-send_events.field-0.0 c.from_residual-in_err-send_events.ensures.1
          (stopped_next (at c.args.out.now) (at c.hand_on.new.self) (at c.send_events.new.out) start held (lines ++ last) lines last
          c.in_err-send_events.field-0.0
          (handed_first (at c.args.out.now) (at c.hand_on.new.self) text c.put_frame.new.out.items first (lines ++ last) held
          c.in_ok-put_frame.ensures.ok c.in_ok-hand_on.ensures.1) refl c.in_err-send_events.ensures.1),
    )

pub returns : goal.returns
returns g c =
    let at = outlet_of g.K.Sink.written g.K.Sink.faults g.K.Sink.since in
    let first = frame_line c.args.number c.args.pairs in
    let lines = flat_map told_line c.args.events in
    let last = shown_number c.args.exchanges in
    let text = c.args.out.now.text.now.items in
    let start = text ++ (first ++ (lines ++ last)) in
    let held = c.hand_on.new.self.text.now.items in
    let left = c.send_events.new.out.text.now.items in (
      c.send_exchanges.ensures.0 ∙ c.in_ok-send_events.ensures.0 ∙ c.in_ok-hand_on.ensures.0,
      sent_on (at c.args.out.now) (at c.send_events.new.out) (at c.send_exchanges.new.out) start (left ++ last) c.send_exchanges.new.out.text.now.items
          c.send_exchanges.result
          (sent_next (at c.args.out.now) (at c.hand_on.new.self) (at c.send_events.new.out) start held (lines ++ last) lines last left
          (handed_first (at c.args.out.now) (at c.hand_on.new.self) text c.put_frame.new.out.items first (lines ++ last) held
          c.in_ok-put_frame.ensures.ok c.in_ok-hand_on.ensures.1) refl c.in_ok-send_events.ensures.1)
          c.send_exchanges.ensures.1,
    )
