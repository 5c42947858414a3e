use Rattle.std.proofs.Common.{◌≡◌, ◌-◌, ◌++◌, take, vec_len}
use Rattle.scene_words.specs.Printed.{scene_text}
use Rattle.made_scene.specs.MadeScene.{adds}
use Rattle.made_scene.proofs.scene_maker.SceneMaker.put_adds.Given as goal

-- what is put, and the adds that are left, are all adds
abbrev pub invariant-boxes : goal.invariant-boxes
invariant-boxes l = record {
  state : (adds (l.boxes - l.count) l.self).after ≡ (adds l.boxes l.fn.self).after;
  text : l.out.items ++ scene_text (adds (l.boxes - l.count) l.self).commands ≡ l.fn.out.items ++ scene_text (adds l.boxes l.fn.self).commands;
  kept : take (vec_len l.fn.out) l.out.items ≡ l.fn.out.items;
}
