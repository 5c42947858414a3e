-- Fewer than eight boxes make a mask that fits.
use Rattle.std.proofs.Common.{◌≤◌, arith, length, map, drop, length-drop}
use Rattle.std.proofs.lemmas.List.{length-map}
use Rattle.fixed_box.specs.Bounds.{meets}
use Rattle.lane_boxes.proofs.Masks.{mask_small, bit_small}
use Rattle.lane_boxes.proofs.columns.Columns.tail_mask.Goals as goal

pub overflow_mul-mask : goal.overflow_mul-mask
overflow_mul-mask c =
    let bools = map (meets c.args.body.now) (drop c.bits.end c.args.self.now.boxes) in
    let short : length bools ≤ 6 =
    omega (arith, length-map (drop c.bits.end c.args.self.now.boxes) (meets c.args.body.now), length-drop c.bits.end c.args.self.now.boxes)
    in
    let h = mask_small 6 bools short in
    omega (arith, c.bits.invariant.mask)

pub overflow_add-mask : goal.overflow_add-mask
overflow_add-mask c =
    let bools = map (meets c.args.body.now) (drop c.bits.end c.args.self.now.boxes) in
    let short : length bools ≤ 6 =
    omega (arith, length-map (drop c.bits.end c.args.self.now.boxes) (meets c.args.body.now), length-drop c.bits.end c.args.self.now.boxes)
    in
    let h = mask_small 6 bools short in
    let one = bit_small c.overlaps.result in
    omega (arith, c.bits.invariant.mask, c.from.ensures)
