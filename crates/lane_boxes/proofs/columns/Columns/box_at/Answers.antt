-- The box is that of the intervals there.
use Rattle.std.proofs.Common.{arith, rules, SFits, w32}
use Rattle.std.proofs.lemmas.Int.{to_z-of_z}
use Rattle.lane_boxes.proofs.BoxLists.{axes_long, boxes_read}
use Rattle.lane_boxes.proofs.columns.Columns.box_at.Goals as goal

pub span_at-x-requires : goal.span_at-x-requires
span_at-x-requires c =
    let axes = axes_long c.self.inside.x c.self.inside.y c.self.inside.z c.self.inside.spare c.args.self.now c.self.invariant c.self.view_is in
    omega (arith, axes.x)

pub span_at-y-requires : goal.span_at-y-requires
span_at-y-requires c =
    let axes = axes_long c.self.inside.x c.self.inside.y c.self.inside.z c.self.inside.spare c.args.self.now c.self.invariant c.self.view_is in
    omega (arith, axes.y)

pub span_at-z-requires : goal.span_at-z-requires
span_at-z-requires c =
    let axes = axes_long c.self.inside.x c.self.inside.y c.self.inside.z c.self.inside.spare c.args.self.now c.self.invariant c.self.view_is in
    omega (arith, axes.z)

pub returns : goal.returns
returns c =
    let made = rw c.unwrap.ensures at c.new.ensures in
    let xl : SFits w32 c.span_at-x.result.lo = search rules in
    let xh : SFits w32 c.span_at-x.result.hi = search rules in
    let yl : SFits w32 c.span_at-y.result.lo = search rules in
    let yh : SFits w32 c.span_at-y.result.hi = search rules in
    let zl : SFits w32 c.span_at-z.result.lo = search rules in
    let zh : SFits w32 c.span_at-z.result.hi = search rules in
    let is = simp to_z-of_z at made.1 in
    rw (is, ← c.self.view_is)
    (boxes_read c.self.inside.x c.self.inside.y c.self.inside.z c.self.inside.spare c.self.invariant c.args.at c.span_at-x.result c.span_at-y.result
    c.span_at-z.result
    c.span_at-x.ensures.span c.span_at-y.ensures.span c.span_at-z.ensures.span)
