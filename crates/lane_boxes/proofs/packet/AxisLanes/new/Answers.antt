-- Each lane is an end of its interval.
use Rattle.std.proofs.Common.{rules, ◌≡◌, length, pos, ◌∙◌}
use Rattle.std.specs.Simd.Lanes.{Each1}
use Rattle.lane_boxes.proofs.SpanLists.{span}
use Rattle.lane_boxes.proofs.Packets.{Fit, eight_of, all_eight, kept_spans}
use Rattle.lane_boxes.proofs.packet.AxisLanes.new.Goals as goal

pub returns : goal.returns
returns c =
    let spans = eight_of (span (pos 0) (pos 0)) c.args.spans in
    let long : length c.args.spans ≡ 8 = search rules in
    let fits : Each1 Fit (eight_of (span (pos 0) (pos 0)) c.args.spans) = search rules in
    kept_spans spans fits ∙ all_eight (span (pos 0) (pos 0)) c.args.spans long
