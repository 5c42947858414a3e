-- Each box has its interval on each axis.
use Rattle.std.proofs.Common.{rules, ◌≡◌, length, arith}
use Rattle.std.proofs.lemmas.List.{get_or_default}
use Rattle.lane_boxes.proofs.Packets.{all_eight}
use Rattle.lane_boxes.proofs.packet.BoxPacket.new.Goals as goal

pub returns : goal.returns
returns c =
    let boxes = c.args.boxes.now in
    let long : length c.args.boxes.now ≡ 8 = search rules in
    let first = c.index-boxes-0.result in
    rw (
      c.new.ensures,
      c.new-2.ensures,
      c.new-3.ensures,
      c.on_x.ensures.span,
      c.on_x-2.ensures.span,
      c.on_x-3.ensures.span,
      c.on_x-4.ensures.span,
      c.on_x-5.ensures.span,
      c.on_x-6.ensures.span,
      c.on_x-7.ensures.span,
      c.on_x-8.ensures.span,
      c.on_y.ensures.span,
      c.on_y-2.ensures.span,
      c.on_y-3.ensures.span,
      c.on_y-4.ensures.span,
      c.on_y-5.ensures.span,
      c.on_y-6.ensures.span,
      c.on_y-7.ensures.span,
      c.on_y-8.ensures.span,
      c.on_z.ensures.span,
      c.on_z-2.ensures.span,
      c.on_z-3.ensures.span,
      c.on_z-4.ensures.span,
      c.on_z-5.ensures.span,
      c.on_z-6.ensures.span,
      c.on_z-7.ensures.span,
      c.on_z-8.ensures.span,
      get_or_default boxes 1 c.index-boxes-1.result first (omega arith),
      get_or_default boxes 2 c.index-boxes-2.result first (omega arith),
      get_or_default boxes 3 c.index-boxes-3.result first (omega arith),
      get_or_default boxes 4 c.index-boxes-4.result first (omega arith),
      get_or_default boxes 5 c.index-boxes-5.result first (omega arith),
      get_or_default boxes 6 c.index-boxes-6.result first (omega arith),
      get_or_default boxes 7 c.index-boxes-7.result first (omega arith),
    )
    (all_eight first boxes long)
