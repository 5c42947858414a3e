use Rattle.std.proofs.Common.{◌≡◌, ◌-◌, ◌++◌, length, take, vec_len}
use Rattle.scene_words.specs.Printed.{scene_text}
use Rattle.made_scene.specs.MadeScene.{moves}
use Rattle.made_scene.specs.Ranges.{IsMoving}
use Rattle.made_scene.proofs.scene_maker.SceneMaker.put_moves.Given as goal

-- what is put, and the moves that are left, are all moves
abbrev pub invariant-slots : goal.invariant-slots
invariant-slots l = record {
  state : (moves (l.boxes - l.slot) l.slot l.self).after ≡ (moves l.boxes 0 l.fn.self).after;
  text : l.out.items ++ scene_text (moves (l.boxes - l.slot) l.slot l.self).commands ≡ l.fn.out.items ++ scene_text (moves l.boxes 0 l.fn.self).commands;
  first : l.boxes ≡ length l.fn.self.bodies;
  count : length l.self.bodies ≡ l.boxes;
  moving : IsMoving 99 l.slot l.self;
  kept : take (vec_len l.fn.out) l.out.items ≡ l.fn.out.items;
}
