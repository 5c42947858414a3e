-- Each law is a lemma over stages.
use Rattle.made_scene.proofs.InRange.{scene_in_range, scene_of_one, scene_length}
use Rattle.made_scene.proofs.laws.made_scene_laws.Goals as goal

pub returns-clause-in_range : goal.returns-clause-in_range
returns-clause-in_range c = scene_in_range

pub returns-clause-of_one : goal.returns-clause-of_one
returns-clause-of_one c = scene_of_one

pub returns-clause-count : goal.returns-clause-count
returns-clause-count c = scene_length
