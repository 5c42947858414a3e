-- The lanes of the three axes make the mask of the boxes.
use Rattle.std.proofs.Common.{refl}
use Rattle.lane_boxes.specs.Spans.{boxes_of}
use Rattle.fixed_box.specs.Bounds.{meets}
use Rattle.lane_boxes.proofs.Masks.{eight_small, packet_mask}
use Rattle.lane_boxes.proofs.packet.BoxPacket.overlap_mask.Goals as goal

pub overflow_cast-result : goal.overflow_cast-result
overflow_cast-result c =
    let mask =
    packet_mask c.args.body.now c.self.inside.x c.self.inside.y c.self.inside.z c.crossing-x.result c.crossing-y.result c.crossing-z.result
    c.crossing-x.ensures.eight c.crossing-y.ensures.eight c.crossing-z.ensures.eight
    (rw c.on_x.ensures.span at c.crossing-x.ensures.lanes) (rw c.on_y.ensures.span at c.crossing-y.ensures.lanes)
    (rw c.on_z.ensures.span at c.crossing-z.ensures.lanes)
    in
    rw mask (record { fits = eight_small (meets c.args.body.now) 0 (boxes_of c.self.inside.x c.self.inside.y c.self.inside.z) })

pub returns : goal.returns
returns c =
    let mask =
    packet_mask c.args.body.now c.self.inside.x c.self.inside.y c.self.inside.z c.crossing-x.result c.crossing-y.result c.crossing-z.result
    c.crossing-x.ensures.eight c.crossing-y.ensures.eight c.crossing-z.ensures.eight
    (rw c.on_x.ensures.span at c.crossing-x.ensures.lanes) (rw c.on_y.ensures.span at c.crossing-y.ensures.lanes)
    (rw c.on_z.ensures.span at c.crossing-z.ensures.lanes)
    in
    record { mask = rw (mask, ← c.self.view_is) refl }
