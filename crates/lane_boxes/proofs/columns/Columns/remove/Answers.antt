-- Each axis loses the interval at the place.
use Rattle.std.proofs.Common.{arith}
use Rattle.lane_boxes.proofs.BoxLists.{axes_long, boxes_removed}
use Rattle.lane_boxes.proofs.columns.Columns.remove.Goals as goal

pub remove-requires : goal.remove-requires
remove-requires c =
    let axes = axes_long c.self.inside.x c.self.inside.y c.self.inside.z c.self.inside.spare c.args.self.now c.self.invariant c.self.view_is in
    omega (arith, axes.x)

pub remove-requires-2 : goal.remove-requires-2
remove-requires-2 c =
    let axes = axes_long c.self.inside.x c.self.inside.y c.self.inside.z c.self.inside.spare c.args.self.now c.self.invariant c.self.view_is in
    omega (arith, axes.y)

pub remove-requires-3 : goal.remove-requires-3
remove-requires-3 c =
    let axes = axes_long c.self.inside.x c.self.inside.y c.self.inside.z c.self.inside.spare c.args.self.now c.self.invariant c.self.view_is in
    omega (arith, axes.z)

pub returns-clause-boxes : goal.returns-clause-boxes
returns-clause-boxes c =
    rw (c.remove.ensures.spans, c.remove-2.ensures.spans, c.remove-3.ensures.spans, ← c.self.view_is)
    (boxes_removed c.self.inside.x c.self.inside.y c.self.inside.z c.self.inside.spare c.self.invariant c.args.at)
