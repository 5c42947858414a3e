-- The line of one event goes on, and those of the later ones are left.
use Rattle.std.proofs.Common.{◌≡◌, ◌++◌, ◌∷◌, ◌∙◌, flat_map, rules, refl}
use Rattle.pair_report.specs.PairReport.{told_line}
use Rattle.frame_player.specs.Outlet.{outlet_of}
use Rattle.frame_player.proofs.Sending.{sent_next, stopped_next, stopped_so}
use Rattle.frame_player.proofs.frame_text.send_events.Goals as goal

pub events-preserved : goal.events-preserved
events-preserved g c =
    let at = outlet_of g.K.Sink.written g.K.Sink.faults g.K.Sink.since in
    let first : c.events.rest ≡ c.in-Some.event ∷ c.next.new.self = search rules in (
      c.in_ok-send_event.ensures.0 ∙ c.events.invariant.0,
      sent_next (at c.args.out.now) (at c.events.out) (at c.send_event.new.out) (c.args.out.now.text.now.items ++ flat_map told_line c.args.events)
          c.events.out.text.now.items (flat_map told_line c.events.rest) (told_line c.in-Some.event) (flat_map told_line c.next.new.self)
          c.send_event.new.out.text.now.items c.events.invariant.1 (rw first refl) c.in_ok-send_event.ensures.1,
    )

pub returns-in_err-send_event : goal.returns-in_err-send_event
returns-in_err-send_event g c =
    let at = outlet_of g.K.Sink.written g.K.Sink.faults g.K.Sink.since in
    let first : c.events.rest ≡ c.in-Some.event ∷ c.next.new.self = search rules in
    let start = c.args.out.now.text.now.items ++ flat_map told_line c.args.events in (
      c.in_err-send_event.ensures.0 ∙ c.events.invariant.0,
      stopped_so (at c.args.out.now) (at c.send_event.new.out) start c.send_event.new.out.text.now.items c.from_residual.result c.in_err-send_event.field-0.0
          c.from_residual.ensures.1
          (stopped_next (at c.args.out.now) (at c.events.out) (at c.send_event.new.out) start c.events.out.text.now.items (flat_map told_line c.events.rest)
          (told_line c.in-Some.event) (flat_map told_line c.next.new.self) c.in_err-send_event.field-0.0 c.events.invariant.1 (rw first refl)
          c.in_err-send_event.ensures.1),
    )
