-- The slot has the cell or none, and the others stay.
use Rattle.std.proofs.Common.{◌≡◌, None, Some, option_map, ap, sym, ◌∙◌, rules}
use Rattle.std.specs.FinMap.{get}
use Rattle.grid_cells.specs.Cells.{standing_cell}
use Rattle.grid_boxes.proofs.StandingLemmas.{drop_here, drop_other, put_here, put_other}
use Rattle.grid_boxes.proofs.standing_cells.settle_cell.Goals as goal

pub returns-in-Some-clause-here : goal.returns-in-Some-clause-here
returns-in-Some-clause-here c =
    let there : get c.args.boxes.now c.args.slot ≡ Some c.in-Some.body = search rules in
    ap (λ m. get m c.args.slot) c.set_key.ensures ∙ put_here c.args.cells.now c.args.slot c.standing_cell.result
    ∙ ap Some c.standing_cell.ensures.value ∙ sym (ap (option_map (standing_cell c.args.floor)) there)

pub returns-in-Some-clause-others : goal.returns-in-Some-clause-others
returns-in-Some-clause-others c s ne = ap (λ m. get m s) c.set_key.ensures ∙ put_other c.args.cells.now c.args.slot c.standing_cell.result s ne

pub returns-in-None-clause-here : goal.returns-in-None-clause-here
returns-in-None-clause-here c =
    let there : get c.args.boxes.now c.args.slot ≡ None = search rules in
    ap (λ m. get m c.args.slot) c.drop_key.ensures ∙ drop_here c.args.cells.now c.args.slot
    ∙ sym (ap (option_map (standing_cell c.args.floor)) there)

pub returns-in-None-clause-others : goal.returns-in-None-clause-others
returns-in-None-clause-others c s ne = ap (λ m. get m s) c.drop_key.ensures ∙ drop_other c.args.cells.now c.args.slot s ne
