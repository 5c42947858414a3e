-- The lanes of both comparisons, over the two columns.
use Rattle.std.proofs.Common.{ap, ◌∙◌, arith, rules, w32, SFits, map, take, drop, int_le}
use Rattle.std.proofs.lemmas.Int.{to_z-of_z}
use Rattle.lane_boxes.proofs.SpanLists.{ends_long, lows_fit, highs_fit}
use Rattle.lane_boxes.specs.Spans.{lane}
use Rattle.lane_boxes.proofs.Crossing.{both_lanes, crossing_is}
use Rattle.lane_boxes.proofs.axis_columns.AxisColumns.crossing.Goals as goal

pub at_most-requires-clause-room : goal.at_most-requires-clause-room
at_most-requires-clause-room c =
    let ends = ends_long c.self.inside.lo.items c.self.inside.hi.items _ c.args.self.now c.self.invariant c.self.view_is in
    rw c.deref-2.ensures.value (omega (arith, ends.lo))

pub at_most-requires-clause-fit : goal.at_most-requires-clause-fit
at_most-requires-clause-fit c = rw c.deref-2.ensures.value (lows_fit c.self.inside.lo.items c.self.inside.hi.items c.self.invariant)

pub at_least-requires-clause-room : goal.at_least-requires-clause-room
at_least-requires-clause-room c =
    let ends = ends_long c.self.inside.lo.items c.self.inside.hi.items _ c.args.self.now c.self.invariant c.self.view_is in
    rw c.deref.ensures.value (omega (arith, ends.hi))

pub at_least-requires-clause-fit : goal.at_least-requires-clause-fit
at_least-requires-clause-fit c = rw c.deref.ensures.value (highs_fit c.self.inside.lo.items c.self.inside.hi.items c.self.invariant)

pub returns : goal.returns
returns c =
    let lo : SFits w32 c.args.span.lo = search rules in
    let hi : SFits w32 c.args.span.hi = search rules in
    let s = c.args.span in
    let los = c.self.inside.lo.items in
    let his = c.self.inside.hi.items in
    let least = rw (c.deref.ensures.value, to_z-of_z w32 c.args.span.lo lo) at c.at_least.ensures in
    let most = rw (c.deref-2.ensures.value, to_z-of_z w32 c.args.span.hi hi) at c.at_most.ensures in
    rw (least, most, ← c.self.view_is)
    (both_lanes (map (λ x. int_le s.lo x) (take 8 (drop c.args.at his))) (map (λ x. int_le x s.hi) (take 8 (drop c.args.at los)))
    ∙ ap (map lane) (crossing_is s los his c.args.at))
