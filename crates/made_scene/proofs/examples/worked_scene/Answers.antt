-- The text is computed.
use Rattle.std.proofs.Common.{refl}
use Rattle.std.specs.Fmt.{digits}
use Rattle.scene_words.specs.Printed.{line_of}
use Rattle.made_scene.specs.MadeScene.{word, later, next_bounds, next_masks, past_box, moved}
use Rattle.made_scene.proofs.examples.worked_scene.Goals as goal

pub returns : goal.returns
unfolding digits line_of word later next_bounds next_masks past_box moved
returns c = refl
