-- Each turn puts one move of those that were left.
use Rattle.std.proofs.Common.{◌∙◌, ◌+◌, ap, length, subst, sym}
use Rattle.std.proofs.lemmas.List.{length-set}
use Rattle.scene_words.specs.Printed.{line_of}
use Rattle.made_scene.specs.MadeScene.{body_at, move_command, moved, word}
use Rattle.made_scene.specs.Ranges.{IsMoving}
use Rattle.made_scene.proofs.PartsPut.{move_put, kept_on}
use Rattle.made_scene.proofs.Stages.{goes_moving}
use Rattle.made_scene.proofs.scene_maker.SceneMaker.put_moves.Goals as goal

pub slots-preserved : goal.slots-preserved
slots-preserved c =
    let s = c.slots.self in
    let slot = c.slots.slot in
    let now = c.put_move.new.out.items in
    let o = c.args.out.now in
    let told = c.in_ok-put_move.ensures in
    let put = move_put _ slot s c.put_move.new.self c.slots.out.items now c.slots-test.true told.state told.text in
    record {
      state = put.0 ∙ c.slots.invariant.state;
      text = put.1 ∙ c.slots.invariant.text;
      first = c.slots.invariant.first;
      count = ap (λ a. length a.bodies) told.state ∙ length-set s.bodies slot (moved (word s.generator) (body_at s slot)) ∙ c.slots.invariant.count;
      moving = subst (IsMoving 99 (slot + 1)) (sym told.state) (goes_moving 99 slot s c.slots.invariant.moving);
      kept = kept_on o.len o.items c.slots.out.items now (line_of (move_command s slot)) o.ok.0 c.slots.invariant.kept told.text;
    }
