-- each query's list is that of its own search
use Rattle.std.proofs.Common.{rules}
use Rattle.std.proofs.lemmas.Result.{IfOk-weaker}
use Rattle.broad_index.specs.Found.{found}
use Rattle.work_pieces.specs.EachLaws.{Each-map}
use Rattle.par_phase.proofs.hits.hits_many.Goals as goal

pub returns : goal.returns
returns g c =
    IfOk-weaker c.by_pieces.result _ _ (
    λ v e. Each-map _ (found (g.B.BroadPhase.bodies c.args.index.now)) (λ list. list.items) c.args.queries.now v.items (λ x y m. search rules) e
    ) c.by_pieces.ensures
