-- What holds a point is what meets the box that is one, so both look at the same nodes.
use Rattle.std.proofs.Common.{◌∙◌, ap, sym}
use Rattle.std.proofs.lemmas.Result.{IfOk-weaker}
use Rattle.broad_index.specs.declared.query.Query.TheVariants.{Region}
use Rattle.broad_index.specs.Found.{query_meets}
use Rattle.tree_search.proofs.Counts.{alike_visits}
use Rattle.tree_search.proofs.hits.push_hits.Goals as goal

pub returns-in-Spot-clause-count : goal.returns-in-Spot-clause-count
returns-in-Spot-clause-count c =
    IfOk-weaker c.descend-in-Spot.result _ _
    (λ n e. e ∙ alike_visits (Region c.flat_box.result) c.args.query.now
    (λ b. c.flat_box.ensures b ∙ ap (λ q. query_meets q b) (sym c.in-Spot.is)) c.args.boxes.now.tree)
    c.descend-in-Spot.ensures.count
