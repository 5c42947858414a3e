-- What is nearest to the flat box at the point.
use Rattle.std.proofs.Common.{◌++◌, ap, sym, ◌∙◌}
use Rattle.std.proofs.lemmas.Result.{on_ok_weaker}
use Rattle.live_queries.specs.Queries.{nearest_to_box}
use Rattle.live_queries.proofs.NearestHandles.{at_spot}
use Rattle.live_queries.proofs.nearest.push_nearest.Goals as goal

pub returns-clause-ok : goal.returns-clause-ok
returns-clause-ok g c =
    let query = c.args.query.now in
    let entries = c.args.table.now.entries in
    on_ok_weaker c.push_nearest_box.result (λ is. is
    ∙ ap (λ hs. c.args.out.now.items ++ hs) (ap (λ b. nearest_to_box entries b 0 query.want query.groups) c.spot.ensures
    ∙ sym (at_spot entries query.at query.want query.groups))) c.push_nearest_box.ensures.ok
