-- Two columns have as many intervals as the first has numbers.
use Rattle.std.proofs.Common.{arith}
use Rattle.lane_boxes.proofs.SpanLists.{ends_long}
use Rattle.lane_boxes.proofs.axis_columns.AxisColumns.len.Goals as goal

pub returns : goal.returns
returns c =
    let ends = ends_long c.self.inside.lo.items c.self.inside.hi.items _ c.args.self.now c.self.invariant c.self.view_is in
    omega (arith, ends.lo)
