-- The header, then the adds, then the frames.
use Rattle.std.proofs.Common.{◌≡◌, ap, ◌∙◌, sym, subst, length, arith}
use Rattle.std.proofs.lemmas.Result.{on_ok_weaker}
use Rattle.made_scene.specs.MadeScene.{start, adds}
use Rattle.made_scene.specs.Ranges.{IsAfter}
use Rattle.made_scene.proofs.PartsPut.{kept_over, scene_put}
use Rattle.made_scene.proofs.Stages.{start_after, adds_after, adds_count}
use Rattle.made_scene.proofs.drill.put_scene.Goals as goal

pub put_frames-requires-clause-some : goal.put_frames-requires-clause-some
put_frames-requires-clause-some c =
    let state = c.in_ok-put_adds.ensures.state ∙ ap (λ s. (adds c.args.boxes s).after) c.new-maker.ensures in
    let all : length c.put_adds.new.self.bodies ≡ c.args.boxes =
    ap (λ s. length s.bodies) state ∙ adds_count c.args.boxes (start c.args.seed) ∙ omega arith in
    omega (arith, all, c.requires.boxes.0)

pub put_frames-requires-clause-start : goal.put_frames-requires-clause-start
put_frames-requires-clause-start c =
    subst (IsAfter 0) (sym (c.in_ok-put_adds.ensures.state ∙ ap (λ s. (adds c.args.boxes s).after) c.new-maker.ensures))
    (adds_after c.args.boxes (start c.args.seed) (omega (arith, c.requires.boxes.1)) (start_after c.args.seed))

pub returns-clause-ok : goal.returns-clause-ok
returns-clause-ok c =
    on_ok_weaker c.put_frames.result
    (λ last. scene_put c.args.seed c.args.boxes c.args.frames c.new-maker.result c.put_adds.new.self
    c.args.out.now.items c.put_header.new.out.items c.put_adds.new.out.items c.put_frames.new.out.items
    c.new-maker.ensures c.in_ok-put_adds.ensures.state c.in_ok-put_header.ensures.ok c.in_ok-put_adds.ensures.text last)
    c.put_frames.ensures.text

pub returns-clause-kept : goal.returns-clause-kept
returns-clause-kept c =
    let o = c.args.out.now in
    let a = c.put_header.new.out in
    let b = c.put_adds.new.out in
    kept_over o.len b.len o.items b.items c.put_frames.new.out.items o.ok.0 b.ok.0
    (kept_over o.len a.len o.items a.items b.items o.ok.0 a.ok.0 c.put_header.ensures.kept c.put_adds.ensures.kept)
    c.put_frames.ensures.kept
