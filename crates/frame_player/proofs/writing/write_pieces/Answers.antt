-- Each write takes the front of what is left.
use Rattle.frame_player.specs.Outlet.{outlet}
use Rattle.frame_player.proofs.Sending.{piece_written}
use Rattle.frame_player.proofs.writing.write_pieces.Goals as goal

pub writes-preserved : goal.writes-preserved
writes-preserved g c =
    let write = c.in_ok-count.ensures in
    piece_written (outlet (g.K.Sink.written c.args.sink.now) (g.K.Sink.faults c.args.sink.now) (g.K.Sink.since c.args.sink.now))
    (outlet (g.K.Sink.written c.writes.sink) (g.K.Sink.faults c.writes.sink) (g.K.Sink.since c.writes.sink))
    (outlet (g.K.Sink.written c.write.new.self) (g.K.Sink.faults c.write.new.self) (g.K.Sink.since c.write.new.self)) c.args.text.now c.writes.rest.now
    c.split_at.result.1.now c.in_ok-count.count
    c.writes.invariant write.written write.count write.since c.split_at.ensures.back
