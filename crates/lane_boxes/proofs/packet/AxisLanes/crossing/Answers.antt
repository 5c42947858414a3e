-- The lanes of both comparisons.
use Rattle.std.proofs.Common.{ap, ◌∙◌, arith, rules, w32, SFits, map, int_le}
use Rattle.std.proofs.lemmas.Int.{to_z-of_z}
use Rattle.std.proofs.lemmas.Simd.{length-zip2}
use Rattle.lane_boxes.specs.Spans.{lane}
use Rattle.lane_boxes.proofs.Crossing.{both_lanes, crossed, kept_lanes}
use Rattle.lane_boxes.proofs.SpanLists.{span}
use Rattle.lane_boxes.proofs.packet.AxisLanes.crossing.Goals as goal

pub at_least-requires-clause-fit : goal.at_least-requires-clause-fit
at_least-requires-clause-fit c = rw (kept_lanes c.self.inside.hi c.self.invariant.hi) c.self.invariant.hi

pub at_most-requires-clause-fit : goal.at_most-requires-clause-fit
at_most-requires-clause-fit c = rw (kept_lanes c.self.inside.lo c.self.invariant.lo) c.self.invariant.lo

pub returns-clause-lanes : goal.returns-clause-lanes
returns-clause-lanes c =
    let lo : SFits w32 c.args.span.lo = search rules in
    let hi : SFits w32 c.args.span.hi = search rules in
    let s = c.args.span in
    let los = c.self.inside.lo in
    let his = c.self.inside.hi in
    let least = rw (kept_lanes his c.self.invariant.hi, to_z-of_z w32 s.lo lo) at c.at_least.ensures in
    let most = rw (kept_lanes los c.self.invariant.lo, to_z-of_z w32 s.hi hi) at c.at_most.ensures in
    rw (least, most, ← c.self.view_is)
    (both_lanes (map (λ x. int_le s.lo x) his) (map (λ x. int_le x s.hi) los) ∙ ap (map lane) (crossed s los his))

pub returns-clause-eight : goal.returns-clause-eight
returns-clause-eight c =
    let same = length-zip2 span c.self.inside.lo c.self.inside.hi (omega (arith, c.self.invariant.lows, c.self.invariant.highs)) in
    rw (← c.self.view_is) (omega (arith, same, c.self.invariant.lows))
