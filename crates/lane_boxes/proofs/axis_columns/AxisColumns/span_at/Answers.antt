-- The interval is the two numbers there.
use Rattle.std.proofs.Common.{sym, ◌∙◌, arith, w32, ap₂}
use Rattle.std.proofs.lemmas.Int.{to_z-of_z}
use Rattle.lane_boxes.specs.Spans.{IsSpan}
use Rattle.lane_boxes.proofs.SpanLists.{ends_long, span, spans_at, is_span}
use Rattle.lane_boxes.proofs.axis_columns.AxisColumns.span_at.Goals as goal

pub index-requires : goal.index-requires
index-requires c =
    let ends = ends_long c.self.inside.lo.items c.self.inside.hi.items _ c.args.self.now c.self.invariant c.self.view_is in
    omega (arith, ends.lo)

pub index-requires-2 : goal.index-requires-2
index-requires-2 c =
    let ends = ends_long c.self.inside.lo.items c.self.inside.hi.items _ c.args.self.now c.self.invariant c.self.view_is in
    omega (arith, ends.hi)

pub returns-clause-span : goal.returns-clause-span
returns-clause-span c =
    let ends = ends_long c.self.inside.lo.items c.self.inside.hi.items _ c.args.self.now c.self.invariant c.self.view_is in
    let one : IsSpan (span c.index.result.now c.index-2.result.now) =
    rw (c.index.ensures, c.index-2.ensures)
    (is_span c.self.inside.lo.items c.self.inside.hi.items c.args.at c.index.result.now c.index-2.result.now (omega (arith, ends.lo)) c.self.invariant)
    in
    rw (to_z-of_z w32 c.index.result.now one.lo, to_z-of_z w32 c.index-2.result.now one.hi, ← c.self.view_is)
    (ap₂ span c.index.ensures c.index-2.ensures
    ∙ sym (spans_at c.self.inside.lo.items c.self.inside.hi.items c.args.at c.index.result.now c.index-2.result.now c.self.invariant))

pub returns-clause-ordered : goal.returns-clause-ordered
returns-clause-ordered c =
    let ends = ends_long c.self.inside.lo.items c.self.inside.hi.items _ c.args.self.now c.self.invariant c.self.view_is in
    let one : IsSpan (span c.index.result.now c.index-2.result.now) =
    rw (c.index.ensures, c.index-2.ensures)
    (is_span c.self.inside.lo.items c.self.inside.hi.items c.args.at c.index.result.now c.index-2.result.now (omega (arith, ends.lo)) c.self.invariant)
    in
    rw (to_z-of_z w32 c.index.result.now one.lo, to_z-of_z w32 c.index-2.result.now one.hi) one.ordered
