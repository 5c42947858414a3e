-- The boxes that are listed are all boxes.
use Rattle.std.proofs.Common.{◌≡◌, ◌∙◌, subst}
use Rattle.std.specs.Prelude.{OnOk, IfSome}
use Rattle.hier_grid.specs.Search.{FindsAll}
use Rattle.hier_grid.proofs.grid_search.GridSearch.all_pairs.Goals as goal

pub returns-in-Some : goal.returns-in-Some
returns-in-Some c =
    subst (λ m. OnOk c.pairs_of_all.result (FindsAll m c.pairs_of_all.new.found.pairs.items))
    (subst (λ o. IfSome o (λ s. s.bodies ≡ c.self.inside.kept.now)) c.in-Some.is c.self.invariant.0 ∙ c.self.view_is)
    c.pairs_of_all.ensures
