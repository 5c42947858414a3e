-- The search begins past bytes that are known to be no line feed, so its place counts from there.
use Rattle.std.proofs.Common.{◌≡◌, length, arith, ap}
use Rattle.scene_lines.specs.SceneLines.{length_ahead}
use Rattle.scene_lines.proofs.Cutting.{length_ahead-within, length_ahead-drop, length_ahead_found, length_ahead_missed}
use Rattle.scene_lines.proofs.line_buffer.place_of_feed.Goals as goal

pub split_at-requires : goal.split_at-requires
split_at-requires c = omega (arith, c.requires, length_ahead-within c.args.bytes.now)

pub returns-in-Some : goal.returns-in-Some
returns-in-Some c =
    let found = c.in-Some.ensures in
    let place : length_ahead c.split_at.result.1.now ≡ c.in-Some.found = length_ahead_found c.split_at.result.1.now c.in-Some.found found.0 found.1 in
    omega (arith, place, ap length_ahead c.split_at.ensures.back, length_ahead-drop c.args.seen c.args.bytes.now c.requires)

pub returns-in-None : goal.returns-in-None
returns-in-None c =
    let place : length_ahead c.split_at.result.1.now ≡ length c.split_at.result.1.now = length_ahead_missed c.split_at.result.1.now c.in-None.ensures in
    omega (arith, place, ap length_ahead c.split_at.ensures.back, length_ahead-drop c.args.seen c.args.bytes.now c.requires)
