-- Both columns get a number.
use Rattle.std.proofs.Common.{[], ◌∷◌, sym, rules, w32, SFits}
use Rattle.std.proofs.lemmas.Int.{to_z-of_z}
use Rattle.lane_boxes.specs.Spans.{IsSpan}
use Rattle.lane_boxes.proofs.SpanLists.{span, are_pushed}
use Rattle.lane_boxes.proofs.Beside.{beside_append}
use Rattle.lane_boxes.proofs.axis_columns.AxisColumns.push_reserved.Goals as goal

pub invariant_of-self : goal.invariant_of-self
invariant_of-self c =
    let lo : SFits w32 c.args.span.lo = search rules in
    let hi : SFits w32 c.args.span.hi = search rules in
    let one : IsSpan c.args.span = record { lo = lo; hi = hi; ordered = c.requires.ordered } in
    rw (c.push_reserved.ensures.items, c.push_reserved-2.ensures.items, to_z-of_z w32 c.args.span.lo lo, to_z-of_z w32 c.args.span.hi hi)
    (are_pushed c.self.inside.lo.items c.self.inside.hi.items c.args.span.lo c.args.span.hi c.self.invariant one)

pub returns-clause-spans : goal.returns-clause-spans
returns-clause-spans c =
    let lo : SFits w32 c.args.span.lo = search rules in
    let hi : SFits w32 c.args.span.hi = search rules in
    let one : IsSpan c.args.span = record { lo = lo; hi = hi; ordered = c.requires.ordered } in
    rw (c.push_reserved.ensures.items, c.push_reserved-2.ensures.items, to_z-of_z w32 c.args.span.lo lo, to_z-of_z w32 c.args.span.hi hi, ← c.self.view_is)
    (beside_append span c.self.inside.lo.items (c.args.span.lo ∷ []) c.self.inside.hi.items (c.args.span.hi ∷ []) (sym c.self.invariant.same))
