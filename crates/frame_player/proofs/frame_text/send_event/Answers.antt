-- Memory runs out before the line is held.
use Rattle.std.proofs.Common.{◌++◌}
use Rattle.pair_report.specs.PairReport.{told_line}
use Rattle.frame_player.specs.Outlet.{outlet_of}
use Rattle.frame_player.proofs.Sending.{report_out_of_memory}
use Rattle.frame_player.proofs.frame_text.send_event.Goals as goal

pub returns-in_err-put_told : goal.returns-in_err-put_told
returns-in_err-put_told g c =
    report_out_of_memory c.args.out.now.sink.ghost_name (outlet_of g.K.Sink.written g.K.Sink.faults g.K.Sink.since c.args.out.now)
    (c.args.out.now.text.now.items ++ told_line c.args.event.now) c.put_told.new.out.items c.from_residual.result c.from_residual.ensures.1
