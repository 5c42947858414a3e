-- The lanes of the three axes make the mask of the boxes.
use Rattle.std.proofs.Common.{arith, refl}
use Rattle.lane_boxes.specs.Spans.{boxes_of}
use Rattle.fixed_box.specs.Bounds.{meets}
use Rattle.lane_boxes.proofs.Masks.{eight_small, mask_is}
use Rattle.lane_boxes.proofs.BoxLists.{axes_long}
use Rattle.lane_boxes.proofs.columns.Columns.full_mask.Goals as goal

pub crossing-x-requires : goal.crossing-x-requires
crossing-x-requires c =
    let axes = axes_long c.self.inside.x c.self.inside.y c.self.inside.z c.self.inside.spare c.args.self.now c.self.invariant c.self.view_is in
    omega (arith, axes.x)

pub crossing-y-requires : goal.crossing-y-requires
crossing-y-requires c =
    let axes = axes_long c.self.inside.x c.self.inside.y c.self.inside.z c.self.inside.spare c.args.self.now c.self.invariant c.self.view_is in
    omega (arith, axes.y)

pub crossing-z-requires : goal.crossing-z-requires
crossing-z-requires c =
    let axes = axes_long c.self.inside.x c.self.inside.y c.self.inside.z c.self.inside.spare c.args.self.now c.self.invariant c.self.view_is in
    omega (arith, axes.z)

pub overflow_cast-result : goal.overflow_cast-result
overflow_cast-result c =
    let mask =
    mask_is c.args.body.now c.self.inside.x.spans c.self.inside.y.spans c.self.inside.z.spans c.args.at c.crossing-x.result c.crossing-y.result
    c.crossing-z.result
    (rw c.on_x.ensures.span at c.crossing-x.ensures) (rw c.on_y.ensures.span at c.crossing-y.ensures) (rw c.on_z.ensures.span at c.crossing-z.ensures)
    in
    rw mask (record { fits = eight_small (meets c.args.body.now) c.args.at (boxes_of c.self.inside.x.spans c.self.inside.y.spans c.self.inside.z.spans) })

pub returns : goal.returns
returns c =
    let mask =
    mask_is c.args.body.now c.self.inside.x.spans c.self.inside.y.spans c.self.inside.z.spans c.args.at c.crossing-x.result c.crossing-y.result
    c.crossing-z.result
    (rw c.on_x.ensures.span at c.crossing-x.ensures) (rw c.on_y.ensures.span at c.crossing-y.ensures) (rw c.on_z.ensures.span at c.crossing-z.ensures)
    in
    rw (mask, ← c.self.view_is) refl
