-- The lines that end within the first bytes are the first lines of the scene.
use Rattle.std.proofs.Common.{true, false}
use Rattle.scene_lines.specs.SceneLines.{lines}
use Rattle.play_rules.specs.CourseLaws.{replies_begin}
use Rattle.play_rules.specs.Play.{playing}
use Rattle.play_rules.specs.World.{opening}
use Rattle.play_rules.proofs.report_prefix.replies_begin_report.Goals as goal

pub returns : goal.returns
returns c shows limit front whole is =
    let first = c.line_laws.ensures.prefix front whole is in
    rw first.1 (replies_begin (playing true shows) limit (lines front false) first.0 opening 1)
