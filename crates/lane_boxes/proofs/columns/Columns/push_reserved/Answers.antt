-- Each axis gets an interval.
use Rattle.lane_boxes.specs.Spans.{x_of, y_of, z_of}
use Rattle.lane_boxes.proofs.BoxLists.{boxes_pushed}
use Rattle.lane_boxes.proofs.columns.Columns.push_reserved.Goals as goal

pub returns-clause-boxes : goal.returns-clause-boxes
returns-clause-boxes c =
    rw (
      c.push_reserved.ensures.spans,
      c.push_reserved-2.ensures.spans,
      c.push_reserved-3.ensures.spans,
      c.on_x.ensures.span,
      c.on_y.ensures.span,
      c.on_z.ensures.span,
      ← c.self.view_is,
    )
    (boxes_pushed c.self.inside.x c.self.inside.y c.self.inside.z c.self.inside.spare c.self.invariant (x_of c.args.body) (y_of c.args.body) (z_of c.args.body))
