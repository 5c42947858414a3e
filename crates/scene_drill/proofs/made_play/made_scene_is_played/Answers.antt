-- Each part of the scene is allowed; it has far fewer lines than a scene may have, and each is in range.
use Rattle.std.proofs.Common.{◌+◌, ◌*◌, ◌≤◌, length, is_some, ap, arith}
use Rattle.std.proofs.lemmas.Nat.{mul-le}
use Rattle.scene_lines.specs.declared.TheConstants.{MOST_LINES}
use Rattle.made_scene.specs.MadeScene.{made_scene}
use Rattle.scene_drill.proofs.Headed.{headed}
use Rattle.scene_drill.proofs.Parts.{scene_allowed}
use Rattle.scene_drill.proofs.made_play.made_scene_is_played.Goals as goal

pub returns-clause-allowed : goal.returns-clause-allowed
returns-clause-allowed c seed boxes count some few short = (scene_allowed seed boxes count some few short).0

pub returns-clause-header : goal.returns-clause-header
returns-clause-header c seed boxes count = headed seed boxes count

pub returns-clause-done : goal.returns-clause-done
returns-clause-done c shows seed boxes count some few frames =
    let scene = made_scene seed boxes count in
    let ok = scene_allowed seed boxes count some few (omega (arith, frames)) in
    let many = c.made_scene_laws.ensures.count seed boxes count in
    let product : count * (boxes + 7) ≤ 100 * 8199 = mul-le count (boxes + 7) 100 8199 frames (omega (arith, few)) in
    let short : length scene ≤ MOST_LINES = omega (arith, many, product, few) in
    c.printed_scene_ends.ensures shows MOST_LINES scene short (c.made_scene_laws.ensures.in_range seed boxes count few frames)
    (c.made_scene_laws.ensures.of_one seed boxes count) ok.0 (ap is_some ok.1)
