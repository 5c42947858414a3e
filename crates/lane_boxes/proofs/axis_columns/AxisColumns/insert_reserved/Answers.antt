-- Both columns get a number at the place.
use Rattle.std.proofs.Common.{sym, arith, rules, w32, SFits}
use Rattle.std.proofs.lemmas.Int.{to_z-of_z}
use Rattle.lane_boxes.specs.Spans.{IsSpan}
use Rattle.lane_boxes.proofs.SpanLists.{ends_long, span, are_inserted}
use Rattle.lane_boxes.proofs.Beside.{beside_insert}
use Rattle.lane_boxes.proofs.axis_columns.AxisColumns.insert_reserved.Goals as goal

pub insert-requires : goal.insert-requires
insert-requires c =
    let ends = ends_long c.self.inside.lo.items c.self.inside.hi.items _ c.args.self.now c.self.invariant c.self.view_is in
    omega (arith, ends.lo)

pub insert-requires-2 : goal.insert-requires-2
insert-requires-2 c =
    let ends = ends_long c.self.inside.lo.items c.self.inside.hi.items _ c.args.self.now c.self.invariant c.self.view_is in
    omega (arith, ends.hi)

pub invariant_of-self : goal.invariant_of-self
invariant_of-self c =
    let lo : SFits w32 c.args.span.lo = search rules in
    let hi : SFits w32 c.args.span.hi = search rules in
    let one : IsSpan c.args.span = record { lo = lo; hi = hi; ordered = c.requires.ordered } in
    rw (
      c.insert.ensures.items,
      c.insert-2.ensures.items,
      c.unwrap.ensures,
      c.unwrap-2.ensures,
      to_z-of_z w32 c.args.span.lo lo,
      to_z-of_z w32
          c.args.span.hi hi,
    )
    (are_inserted c.self.inside.lo.items c.self.inside.hi.items c.args.at c.args.span.lo c.args.span.hi c.self.invariant one)

pub returns-clause-spans : goal.returns-clause-spans
returns-clause-spans c =
    let lo : SFits w32 c.args.span.lo = search rules in
    let hi : SFits w32 c.args.span.hi = search rules in
    let one : IsSpan c.args.span = record { lo = lo; hi = hi; ordered = c.requires.ordered } in
    rw (
      c.insert.ensures.items,
      c.insert-2.ensures.items,
      c.unwrap.ensures,
      c.unwrap-2.ensures,
      to_z-of_z w32 c.args.span.lo lo,
      to_z-of_z w32
          c.args.span.hi hi,
      ← c.self.view_is,
    )
    (beside_insert span c.self.inside.lo.items c.self.inside.hi.items c.args.at c.args.span.lo c.args.span.hi (sym c.self.invariant.same))
