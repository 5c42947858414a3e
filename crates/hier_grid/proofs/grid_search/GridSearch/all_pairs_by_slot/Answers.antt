-- The slots are the present ones.
use Rattle.std.proofs.Common.{◌≡◌, ap, ◌∙◌, subst}
use Rattle.hier_grid.specs.Search.{FindsRun}
use Rattle.slot_lists.specs.Present.{present}
use Rattle.hier_grid.proofs.RunLemmas.{present_found}
use Rattle.hier_grid.proofs.grid_search.GridSearch.all_pairs_by_slot.Goals as goal

pub returns : goal.returns
returns c =
    let kept = c.args.self.now in
    let found = c.pairs_of_run.new.found.pairs.items in
    let slots : c.deref.result.now ≡ present kept =
    c.deref.ensures.value ∙ c.in_ok-list.ensures.slots ∙ ap present (c.boxes.ensures ∙ c.self.view_is) in
    present_found kept found (subst (λ l. FindsRun kept l found) slots c.in_ok-looked.ensures)
