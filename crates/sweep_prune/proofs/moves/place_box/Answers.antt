-- What changes on one axis leaves the other two.
use Rattle.std.proofs.Common.{ap, ◌∙◌}
use Rattle.sweep_prune.proofs.SweepLemmas.{swept_added}
use Rattle.sweep_prune.proofs.WalkLemmas.{on_ok_three}
use Rattle.sweep_prune.proofs.moves.place_box.Goals as goal

pub place_axis-requires-clause-ready : goal.place_axis-requires-clause-ready
place_axis-requires-clause-ready c = let r = c.requires.ready in (r.0, r.1.x, r.2.on_x, r.3, ap (λ l. l.x) r.4)

pub place_axis-requires-2-clause-ready : goal.place_axis-requires-2-clause-ready
place_axis-requires-2-clause-ready c = let r = c.requires.ready in (
  r.0,
  r.1.y,
  r.2.on_y,
  r.3,
  ap (λ l. l.y) c.in_ok-place_axis.ensures.others
      ∙ ap (λ l. l.y) r.4,
)

pub place_axis-requires-3-clause-ready : goal.place_axis-requires-3-clause-ready
place_axis-requires-3-clause-ready c = let r = c.requires.ready in (
  r.0,
  r.1.z,
  r.2.on_z,
  r.3,
  ap (λ l. l.z) c.in_ok-place_axis-2.ensures.others
      ∙ ap (λ l. l.z) c.in_ok-place_axis.ensures.others ∙ ap (λ l. l.z) r.4,
)

pub returns : goal.returns
returns c =
    on_ok_three c.place_axis-3.result
    (λ up others added bodies ls k absent at.
    let y1 = ap (λ l. l.y) c.in_ok-place_axis.ensures.others in
    let z2 = ap (λ l. l.z) c.in_ok-place_axis-2.ensures.others ∙ ap (λ l. l.z) c.in_ok-place_axis.ensures.others in
    swept_added bodies c.args.slot c.args.body c.place_axis.new.keys.items c.place_axis-2.new.keys.items c.place_axis-3.new.keys.items
    c.args.core.now c.place_axis.new.core c.place_axis-2.new.core c.place_axis-3.new.core
    c.in_ok-place_axis.ensures.counted c.in_ok-place_axis-2.ensures.counted up
    c.in_ok-place_axis-2.ensures.others others
    (c.in_ok-place_axis.ensures.added bodies ls.x k.on_x absent (ap (λ l. l.x) at))
    (c.in_ok-place_axis-2.ensures.added bodies ls.y k.on_y absent (y1 ∙ ap (λ l. l.y) at))
    (added bodies ls.z k.on_z absent (z2 ∙ ap (λ l. l.z) at)))
    c.place_axis-3.ensures.counted c.place_axis-3.ensures.others c.place_axis-3.ensures.added
