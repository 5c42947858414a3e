-- Each turn puts one frame of those that were left, and a box has then moved once more at most.
use Rattle.std.proofs.Common.{◌∙◌, ◌≡◌, ◌+◌, ap, length, subst, sym, arith}
use Rattle.made_scene.specs.Ranges.{IsAfter}
use Rattle.made_scene.proofs.PartsPut.{frame_put, kept_over}
use Rattle.made_scene.proofs.Stages.{after_more, frame_after, frame_count}
use Rattle.made_scene.proofs.scene_maker.SceneMaker.put_frames.Goals as goal

pub put_frame-requires-clause-after : goal.put_frame-requires-clause-after
put_frame-requires-clause-after c = after_more c.frames.frame 99 c.frames.self (omega arith) c.frames.invariant.after

pub frames-preserved : goal.frames-preserved
frames-preserved c =
    let s = c.frames.self in
    let frame = c.frames.frame in
    let now = c.put_frame.new.out.items in
    let o = c.args.out.now in
    let told = c.in_ok-put_frame.ensures in
    let same : length c.put_frame.new.self.bodies ≡ length s.bodies = ap (λ a. length a.bodies) told.state ∙ frame_count s in
    record {
      text = frame_put c.args.count frame s c.put_frame.new.self c.frames.out.items now c.frames-test.true told.state told.text ∙ c.frames.invariant.text;
      some = omega (arith, same, c.frames.invariant.some);
      after = subst (IsAfter (frame + 1)) (sym told.state) (frame_after frame s c.frames.invariant.after);
      kept = kept_over o.len c.frames.out.len o.items c.frames.out.items now o.ok.0 c.frames.out.ok.0 c.frames.invariant.kept told.kept;
    }
