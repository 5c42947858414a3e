-- Serves proofs alone: the parts of a made scene, each command allowed where it stands.
use Rattle.std.specs.Prelude.{◌≡◌, ℕ, ◌≤◌, length, slice_index, Some}
use Rattle.scene_words.specs.declared.version.Version.TheVariants.{One}
use Rattle.play_rules.specs.AllowedScene.{AreAllowed, after_all}
use Rattle.play_rules.specs.World.{World}
use Rattle.made_scene.specs.MadeScene.{Stage, Part}
use Rattle.scene_drill.specs.Slots.{Follows}

-- the world that a scene has made so far: so many boxes, each in its slot and of its generation, after so many replacements
pub record IsMade (boxes replaced : ℕ) (s : Stage) (w : World) : Type 0 where
  pub header : w.version ≡ Some One
  pub bodies : length s.bodies ≡ boxes
  pub generations : length s.generations ≡ boxes
  pub young : (slot : ℕ) → slice_index s.generations slot ≤ replaced
  pub table : Follows s.generations w.time.now.table

-- The commands of a part are allowed, and make such a world of the stage after them.
pub record IsAllowed (boxes replaced : ℕ) (w : World) (part : Part) : Type 0 where
  pub allowed : AreAllowed w part.commands
  pub made : IsMade boxes replaced part.after (after_all w part.commands)
