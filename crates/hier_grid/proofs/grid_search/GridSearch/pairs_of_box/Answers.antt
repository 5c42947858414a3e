-- The boxes that are listed, or linked, are all boxes.
use Rattle.std.proofs.Common.{◌≡◌, ◌∙◌, true, subst}
use Rattle.std.specs.Prelude.{OnOk, IfSome}
use Rattle.grid_cells.specs.Cells.{cell_of}
use Rattle.hier_grid.specs.Search.{Finds, IsDue}
use Rattle.hier_grid.proofs.grid_search.GridSearch.pairs_of_box.Goals as goal

pub returns-in-Some : goal.returns-in-Some
returns-in-Some c =
    let own = c.args.own.now in
    subst (λ m. OnOk c.pairs_due.result
    (Finds m own true (IsDue cell_of own.slot own.body) c.args.found.now.pairs.items c.pairs_due.new.found.pairs.items))
    (subst (λ o. IfSome o (λ s. s.bodies ≡ c.self.inside.kept.now)) c.in-Some.is c.self.invariant.0 ∙ c.self.view_is)
    c.pairs_due.ensures
