-- Each line is that of the command with the box and the corners of the slots, and one stands behind the other.
use Rattle.std.proofs.Common.{false, ◌≡◌, ◌++◌, ap, ◌∙◌}
use Rattle.std.proofs.lemmas.Result.{on_ok_weaker}
use Rattle.ray_slabs.specs.Vector.{widened}
use Rattle.scene_words.specs.declared.command.Command.TheVariants.{Frame, BoxQ, PointQ, RayQ, SegQ}
use Rattle.scene_words.specs.Printed.{line_of}
use Rattle.made_scene.specs.MadeScene.{body_at, corner, next_slot, origin, everyone}
use Rattle.made_scene.proofs.PartsPut.{five_put}
use Rattle.made_scene.proofs.scene_maker.SceneMaker.put_questions.Goals as goal

pub returns-clause-text : goal.returns-clause-text
returns-clause-text c =
    let s = c.args.self.now in
    let slot = c.args.slot in
    let at : c.lo-at.result ≡ corner s slot = c.lo-at.ensures.lo ∙ ap (λ b. b.lo) c.body_at-body.ensures in
    let to : c.lo.result ≡ corner s (next_slot s slot) = c.lo.ensures.lo ∙ ap (λ b. b.lo) c.body_at.ensures
    ∙ ap (λ k. corner s k) c.next_slot.ensures.slot in
    let ray : c.ray_to-ray.result ≡ record { from = origin; dir = widened (corner s slot) } =
    c.ray_to-ray.ensures.value ∙ ap (λ p. record { from = origin; dir = widened p }) at in
    let seg : c.seg_between-seg.result ≡ record { a = widened (corner s slot); b = widened (corner s (next_slot s slot)) } =
    c.seg_between-seg.ensures.value ∙ ap (λ p. record { a = widened p; b = widened c.lo.result }) at
    ∙ ap (λ p. record { a = widened (corner s slot); b = widened p }) to in
    on_ok_weaker c.put_line-5.result
    (λ last. five_put c.args.out.now.items c.put_line.new.out.items c.put_line-2.new.out.items
    c.put_line-3.new.out.items c.put_line-4.new.out.items c.put_line-5.new.out.items
    (line_of (BoxQ (body_at s slot) everyone)) (line_of (PointQ (corner s slot) everyone))
    (line_of (RayQ (record { from = origin; dir = widened (corner s slot) }) everyone false))
    (line_of (SegQ (record { a = widened (corner s slot); b = widened (corner s (next_slot s slot)) }) everyone)) (line_of Frame)
    (c.in_ok-put_line.ensures.ok ∙ ap (λ b. c.args.out.now.items ++ line_of (BoxQ b everyone)) c.body_at-body.ensures)
    (c.in_ok-put_line-2.ensures.ok ∙ ap (λ p. c.put_line.new.out.items ++ line_of (PointQ p everyone)) at)
    (c.in_ok-put_line-3.ensures.ok ∙ ap (λ r. c.put_line-2.new.out.items ++ line_of (RayQ r everyone false)) ray)
    (c.in_ok-put_line-4.ensures.ok ∙ ap (λ g. c.put_line-3.new.out.items ++ line_of (SegQ g everyone)) seg)
    last)
    c.put_line-5.ensures.ok
