use Rattle.std.proofs.Common.{◌≡◌, ◌++◌, length, flat_map}
use Rattle.pair_report.specs.PairReport.{told_line}
use Rattle.frame_player.specs.Outlet.{outlet_of, IsHanded}
use Rattle.frame_player.proofs.frame_text.send_events.Given as goal

-- what went on by the same sink, and the lines that are left
abbrev pub invariant-events : goal.invariant-events
invariant-events g l =
    (l.out.sink.ghost_name ≡ l.fn.out.sink.ghost_name)
    × IsHanded (outlet_of g.K.Sink.written g.K.Sink.faults g.K.Sink.since l.fn.out) (outlet_of g.K.Sink.written g.K.Sink.faults g.K.Sink.since l.out)
    (l.fn.out.text.now.items ++ flat_map told_line l.fn.events) (l.out.text.now.items ++ flat_map told_line l.rest)

abbrev pub decreases-events : goal.decreases-events
decreases-events g l = length l.rest
