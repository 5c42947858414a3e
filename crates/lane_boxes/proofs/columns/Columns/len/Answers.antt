-- There are as many boxes as intervals on the first axis.
use Rattle.std.proofs.Common.{arith}
use Rattle.lane_boxes.proofs.BoxLists.{axes_long}
use Rattle.lane_boxes.proofs.columns.Columns.len.Goals as goal

pub returns : goal.returns
returns c =
    let axes = axes_long c.self.inside.x c.self.inside.y c.self.inside.z c.self.inside.spare c.args.self.now c.self.invariant c.self.view_is in
    omega (arith, axes.x, c.len.ensures)
