-- Both columns lose the number at the place.
use Rattle.std.proofs.Common.{sym, arith}
use Rattle.lane_boxes.proofs.SpanLists.{ends_long, span, are_removed}
use Rattle.lane_boxes.proofs.Beside.{beside_remove}
use Rattle.lane_boxes.proofs.axis_columns.AxisColumns.remove.Goals as goal

pub remove-requires : goal.remove-requires
remove-requires c =
    let ends = ends_long c.self.inside.lo.items c.self.inside.hi.items _ c.args.self.now c.self.invariant c.self.view_is in
    omega (arith, ends.lo)

pub invariant_of-self : goal.invariant_of-self
invariant_of-self c =
    rw (c.remove.ensures.items, c.remove-2.ensures.items) (are_removed c.self.inside.lo.items c.self.inside.hi.items c.args.at c.self.invariant)

pub returns-clause-spans : goal.returns-clause-spans
returns-clause-spans c =
    rw (c.remove.ensures.items, c.remove-2.ensures.items, ← c.self.view_is)
    (beside_remove span c.self.inside.lo.items c.self.inside.hi.items c.args.at (sym c.self.invariant.same))
