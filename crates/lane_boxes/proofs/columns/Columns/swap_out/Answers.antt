-- Each axis gets its last interval at the place.
use Rattle.std.proofs.Common.{◌≡◌, ◌+◌, length, pos, swap_remove, ap, ◌∙◌, arith}
use Rattle.lane_boxes.specs.Spans.{boxes_of, x_of, y_of, z_of}
use Rattle.fixed_box.specs.Bounds.{Bounds}
use Rattle.lane_boxes.proofs.Beside.{swap_removed_long}
use Rattle.lane_boxes.proofs.BoxLists.{axes_long, boxes_swapped}
use Rattle.lane_boxes.proofs.columns.Columns.swap_out.Goals as goal

pub swap_out-requires : goal.swap_out-requires
swap_out-requires c =
    let axes = axes_long c.self.inside.x c.self.inside.y c.self.inside.z c.self.inside.spare c.args.self.now c.self.invariant c.self.view_is in
    omega (arith, axes.x)

pub swap_out-requires-2 : goal.swap_out-requires-2
swap_out-requires-2 c =
    let axes = axes_long c.self.inside.x c.self.inside.y c.self.inside.z c.self.inside.spare c.args.self.now c.self.invariant c.self.view_is in
    omega (arith, axes.y)

pub swap_out-requires-3 : goal.swap_out-requires-3
swap_out-requires-3 c =
    let axes = axes_long c.self.inside.x c.self.inside.y c.self.inside.z c.self.inside.spare c.args.self.now c.self.invariant c.self.view_is in
    omega (arith, axes.z)

origin : Bounds
origin = record { lo = record { x = pos 0; y = pos 0; z = pos 0 }; hi = record { x = pos 0; y = pos 0; z = pos 0 } }

moved : (c : goal.After-self-1) (d : Bounds) → boxes_of c.swap_out.new.self.spans c.swap_out-2.new.self.spans c.swap_out-3.new.self.spans ≡ swap_remove
    c.args.self.now.boxes c.args.at d
moved c d =
    rw (c.swap_out.ensures.spans (x_of d), c.swap_out-2.ensures.spans (y_of d), c.swap_out-3.ensures.spans (z_of d), ← c.self.view_is)
    (boxes_swapped c.self.inside.x c.self.inside.y c.self.inside.z c.self.inside.spare c.self.invariant c.args.at (x_of d) (y_of d) (z_of d))

pub returns-clause-boxes : goal.returns-clause-boxes
returns-clause-boxes c d = moved c d

pub returns-clause-len : goal.returns-clause-len
returns-clause-len c = ap (λ l. length l + 1) (moved c origin) ∙ swap_removed_long c.args.self.now.boxes c.args.at origin c.requires
