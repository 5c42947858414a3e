-- Each scene is upgraded by the definitions, and the text comes out.
use Rattle.std.proofs.Common.{refl}
use Rattle.std.specs.Fmt.{digits}
use Rattle.scene_words.specs.Printed.{line_of}
use Rattle.scene_words.specs.SceneWords.{point_at, add_of, command_of}
use Rattle.play_rules.specs.Course.{within_limits}
use Rattle.play_rules.proofs.upgrading.worked_upgrades.Goals as goal

pub returns : goal.returns
unfolding within_limits command_of add_of point_at line_of digits
returns c = record {
  blank_and_comment = refl;
  done = refl;
  begun = refl;
  refused = refl;
  nothing = refl;
  no_header = refl;
  too_many = refl;
}
