use Rattle.std.proofs.Common.{◌≡◌, ◌≤◌, ◌-◌, ◌++◌, length, take, vec_len}
use Rattle.scene_words.specs.Printed.{scene_text}
use Rattle.made_scene.specs.MadeScene.{frames}
use Rattle.made_scene.specs.Ranges.{IsAfter}
use Rattle.made_scene.proofs.scene_maker.SceneMaker.put_frames.Given as goal

-- what is put, and the frames that are left, are all frames
abbrev pub invariant-frames : goal.invariant-frames
invariant-frames l = record {
  text : l.out.items ++ scene_text (frames (l.count - l.frame) l.self).commands ≡ l.fn.out.items ++ scene_text (frames l.count l.fn.self).commands;
  some : 1 ≤ length l.self.bodies;
  after : IsAfter l.frame l.self;
  kept : take (vec_len l.fn.out) l.out.items ≡ l.fn.out.items;
}
