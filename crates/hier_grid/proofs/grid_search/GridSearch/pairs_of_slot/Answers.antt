-- The slot has this box, and no other one.
use Rattle.std.proofs.Common.{◌≡◌, Some, sym, ◌∙◌, subst, refl, rules}
use Rattle.std.specs.FinMap.{get}
use Rattle.grid_cells.specs.Cells.{cell_of}
use Rattle.hier_grid.specs.Search.{FindsFrom}
use Rattle.grid_boxes.specs.LevelLaws.{some_is}
use Rattle.hier_grid.proofs.grid_search.GridSearch.pairs_of_slot.Goals as goal

pub returns : goal.returns
returns c =
    let kept = c.args.self.now in
    let here : get kept c.args.slot ≡ Some c.in-Some.body = search rules in
    let search_of = c.in_ok-pairs_of_box.ensures in
    record {
      sound = search_of.sound here;
      more = search_of.more;
      found = λ body own. subst (λ b. FindsFrom cell_of kept c.args.slot b c.pairs_of_box.new.found.pairs.items) (some_is (sym here ∙ own))
          (λ q b e m other due. search_of.found q b e due m other refl);
    }
