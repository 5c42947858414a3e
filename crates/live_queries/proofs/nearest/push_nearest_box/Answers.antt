-- The boxes that are asked for are among those of the index, and the nearest of them are told in handles.
use Rattle.std.proofs.Common.{◌≡◌, ◌++◌, ap, ◌∙◌}
use Rattle.std.specs.FinMap.{get}
use Rattle.std.proofs.lemmas.Result.{on_ok_weaker}
use Rattle.live_table.specs.Bodies.{bodies_of}
use Rattle.near_boxes.specs.Nearest.{nearest_about}
use Rattle.live_queries.specs.Queries.{asked_from}
use Rattle.live_queries.proofs.Asked.{among_asked}
use Rattle.live_queries.proofs.NearestHandles.{nearest_handles}
use Rattle.live_queries.proofs.nearest.push_nearest_box.Goals as goal

pub nearest-requires-clause-among : goal.nearest-requires-clause-among
nearest-requires-clause-among g c κs within k b h =
    ap (λ m. get m k) c.requires.bodies ∙ among_asked c.args.query.now.body c.args.query.now.from c.args.query.now.groups c.args.table.now c.requires.table k b h

pub returns-clause-ok : goal.returns-clause-ok
returns-clause-ok g c =
    let query = c.args.query.now in
    let bodies = bodies_of (asked_from c.args.table.now.entries query.body query.from query.groups) in
    let told : c.deref.result.now ≡ nearest_about bodies query.body query.want =
    c.deref.ensures.value ∙ c.in_ok-nearest.ensures.ok ∙ ap (λ ns. ns ++ nearest_about bodies query.body query.want) c.clear.ensures.items in
    on_ok_weaker c.push_handles.result (λ is. is
    ∙ ap (λ hs. c.args.out.now.items ++ hs) (nearest_handles c.args.table.now c.requires.table query.body query.from query.want query.groups c.deref.result.now told))
    c.push_handles.ensures.ok
