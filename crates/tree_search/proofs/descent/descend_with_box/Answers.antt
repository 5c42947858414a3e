-- A descent with a region is one with its box.
use Rattle.std.proofs.Common.{◌∙◌}
use Rattle.std.proofs.lemmas.Result.{IfOk-weaker}
use Rattle.tree_search.proofs.Counts.{region_visits}
use Rattle.tree_search.proofs.descent.descend_with_box.Goals as goal

pub returns-clause-count : goal.returns-clause-count
returns-clause-count c =
    IfOk-weaker c.descend.result _ _ (λ n e. e ∙ region_visits c.box_laws.ensures.either_way c.args.boxes.now.tree c.args.region.now) c.descend.ensures.count
