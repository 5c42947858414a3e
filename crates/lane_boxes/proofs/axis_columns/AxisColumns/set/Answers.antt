-- Both columns get another number at the place.
use Rattle.std.proofs.Common.{arith, rules, w32, SFits}
use Rattle.std.proofs.lemmas.Int.{to_z-of_z}
use Rattle.lane_boxes.specs.Spans.{IsSpan}
use Rattle.lane_boxes.proofs.SpanLists.{ends_long, span, are_set}
use Rattle.lane_boxes.proofs.Beside.{beside_set}
use Rattle.lane_boxes.proofs.axis_columns.AxisColumns.set.Goals as goal

pub index_mut-requires : goal.index_mut-requires
index_mut-requires c =
    let ends = ends_long c.self.inside.lo.items c.self.inside.hi.items _ c.args.self.now c.self.invariant c.self.view_is in
    omega (arith, ends.lo)

pub index_mut-requires-2 : goal.index_mut-requires-2
index_mut-requires-2 c =
    let ends = ends_long c.self.inside.lo.items c.self.inside.hi.items _ c.args.self.now c.self.invariant c.self.view_is in
    omega (arith, ends.hi)

pub invariant_of-self : goal.invariant_of-self
invariant_of-self c =
    let lo : SFits w32 c.args.span.lo = search rules in
    let hi : SFits w32 c.args.span.hi = search rules in
    let one : IsSpan c.args.span = record { lo = lo; hi = hi; ordered = c.requires.ordered } in
    rw (to_z-of_z w32 c.args.span.lo lo, to_z-of_z w32 c.args.span.hi hi)
    (are_set c.self.inside.lo.items c.self.inside.hi.items c.args.at c.args.span.lo c.args.span.hi c.self.invariant one)

pub returns-clause-spans : goal.returns-clause-spans
returns-clause-spans c =
    let lo : SFits w32 c.args.span.lo = search rules in
    let hi : SFits w32 c.args.span.hi = search rules in
    let one : IsSpan c.args.span = record { lo = lo; hi = hi; ordered = c.requires.ordered } in
    rw (to_z-of_z w32 c.args.span.lo lo, to_z-of_z w32 c.args.span.hi hi, ← c.self.view_is)
    (beside_set span c.self.inside.lo.items c.self.inside.hi.items c.args.at c.args.span.lo c.args.span.hi)
