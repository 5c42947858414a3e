-- Serves proofs alone: the player's state as the world that it stands for.
use Rattle.std.specs.Prelude.{◌≢◌, List, Option, Some}
use Rattle.live_table.specs.declared.handle.Handle.{Handle}
use Rattle.live_table.specs.declared.live.Live.{Live}
use Rattle.box_world.specs.Answers.{State, add_refusal, shift_refusal, frame_refusal}
use Rattle.box_world.specs.World.{World as Boxes}
use Rattle.box_world.specs.declared.refusal.Refusal.TheVariants.{Exhausted}
use Rattle.scene_words.specs.declared.version.Version.{Version}
use Rattle.play_rules.specs.World.{World}

-- the world that a version and the boxes under it stand for
abbrev pub world_of : Option Version → State → World
world_of version boxes = record { version = version; time = boxes.time }

-- the live boxes
abbrev pub live_in : State → List Live
live_in boxes = boxes.time.now.table.entries

-- No number of a world is at its end, so no call answers that one is.
pub record HasRoom (w : Boxes) : Type 0 where
  pub add : add_refusal w ≢ Some Exhausted
  pub shift : (handle : Handle) → shift_refusal w handle ≢ Some Exhausted
  pub frame : frame_refusal w ≢ Some Exhausted
