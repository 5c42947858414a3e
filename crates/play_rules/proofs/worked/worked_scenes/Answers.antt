-- Each scene is played by the definitions, and the report comes out.
use Rattle.std.proofs.Common.{refl}
use Rattle.std.specs.Fmt.{digits}
use Rattle.ray_slabs.specs.Crossing.{in_ray, in_seg}
use Rattle.scene_words.specs.SceneWords.{point_at, add_of, move_of, mask_of, box_of, point_of, ray_of, seg_of, command_of}
use Rattle.play_rules.specs.Course.{within_limits}
use Rattle.play_rules.proofs.worked.worked_scenes.Goals as goal

pub returns : goal.returns
unfolding within_limits command_of add_of move_of mask_of box_of point_of ray_of seg_of point_at in_ray in_seg digits
returns c = record {
  nothing = refl;
  two_empty_lines = refl;
  one_frame = refl;
  shared_face = refl;
  moves = refl;
  slot_again = refl;
  masks = refl;
  ray = refl;
  rays_within_and_along = refl;
  one_step_before_the_box = refl;
  across_all = refl;
  boxes_of_a_group = refl;
  too_many_lines = refl;
  exchanges = refl;
  just_enough_lines = refl;
  inverted = refl;
}
