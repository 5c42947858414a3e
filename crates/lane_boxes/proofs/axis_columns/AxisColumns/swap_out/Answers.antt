-- Both columns get their last number at the place.
use Rattle.std.proofs.Common.{◌+◌, length, ap, sym, ◌∙◌, arith, pos}
use Rattle.lane_boxes.specs.Spans.{spans_of, Spans}
use Rattle.lane_boxes.proofs.SpanLists.{ends_long, span, are_swapped}
use Rattle.lane_boxes.proofs.Beside.{beside_swap_remove, swap_default, swap_removed_long}
use Rattle.lane_boxes.proofs.axis_columns.AxisColumns.swap_out.Goals as goal

pub swap_remove-requires : goal.swap_remove-requires
swap_remove-requires c =
    let ends = ends_long c.self.inside.lo.items c.self.inside.hi.items _ c.args.self.now c.self.invariant c.self.view_is in
    omega (arith, ends.lo)

pub swap_remove-requires-2 : goal.swap_remove-requires-2
swap_remove-requires-2 c =
    let ends = ends_long c.self.inside.lo.items c.self.inside.hi.items _ c.args.self.now c.self.invariant c.self.view_is in
    omega (arith, ends.hi)

pub invariant_of-self : goal.invariant_of-self
invariant_of-self c =
    let ends = ends_long c.self.inside.lo.items c.self.inside.hi.items _ c.args.self.now c.self.invariant c.self.view_is in
    rw (c.swap_remove.ensures.items, c.swap_remove-2.ensures.items)
    (are_swapped c.self.inside.lo.items c.self.inside.hi.items c.args.at c.swap_remove.result c.swap_remove-2.result (omega (arith, ends.lo)) c.self.invariant)

pub returns-clause-spans : goal.returns-clause-spans
returns-clause-spans c d =
    let ends = ends_long c.self.inside.lo.items c.self.inside.hi.items _ c.args.self.now c.self.invariant c.self.view_is in
    let one = span c.swap_remove.result c.swap_remove-2.result in
    rw (c.swap_remove.ensures.items, c.swap_remove-2.ensures.items, ← c.self.view_is)
    (beside_swap_remove span c.self.inside.lo.items c.self.inside.hi.items c.args.at c.swap_remove.result c.swap_remove-2.result (sym c.self.invariant.same)
    ∙ swap_default (spans_of c.self.inside.lo.items c.self.inside.hi.items) c.args.at one d (omega (arith, ap (λ (s : Spans). length s.spans) c.self.view_is)))

pub returns-clause-len : goal.returns-clause-len
returns-clause-len c =
    let none = span (pos 0) (pos 0) in
    ap (λ l. length l + 1) (returns-clause-spans c none) ∙ swap_removed_long c.args.self.now.spans c.args.at none c.requires
