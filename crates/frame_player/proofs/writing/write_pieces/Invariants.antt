use Rattle.std.proofs.Common.{length}
use Rattle.frame_player.specs.Outlet.{outlet, IsHanded}
use Rattle.frame_player.proofs.writing.write_pieces.Given as goal

-- what was written, and what is left to write
abbrev pub invariant-writes : goal.invariant-writes
invariant-writes g l =
    IsHanded (outlet (g.K.Sink.written l.fn.sink) (g.K.Sink.faults l.fn.sink) (g.K.Sink.since l.fn.sink))
    (outlet (g.K.Sink.written l.sink) (g.K.Sink.faults l.sink) (g.K.Sink.since l.sink)) l.text l.rest

abbrev pub decreases-writes : goal.decreases-writes
decreases-writes g l = length l.rest
