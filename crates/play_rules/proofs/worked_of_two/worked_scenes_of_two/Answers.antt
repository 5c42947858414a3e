-- Each scene is played by the definitions, and the report comes out.
use Rattle.std.proofs.Common.{refl}
use Rattle.std.specs.Fmt.{digits}
use Rattle.box_cast.specs.Cast.{in_cast, first_contact}
use Rattle.ray_slabs.specs.Crossing.{in_ray}
use Rattle.ray_slabs.specs.First.{first}
use Rattle.scene_words.specs.SceneWords.{point_at, add_of, ray_of, cast_of, near_of, command_of}
use Rattle.play_rules.specs.Course.{within_limits}
use Rattle.play_rules.proofs.worked_of_two.worked_scenes_of_two.Goals as goal

pub returns : goal.returns
unfolding within_limits command_of add_of ray_of cast_of near_of point_at in_cast first_contact in_ray first digits
returns c = record {
  owners = refl;
  fixed_in_version_1 = refl;
  no_owner = refl;
  rays_by_entry = refl;
  casts = refl;
  casts_past_the_range = refl;
  nearest = refl;
  nearest_across_all = refl;
  marks = refl;
  marks_with_exchanges = refl;
  most_marks = refl;
}
