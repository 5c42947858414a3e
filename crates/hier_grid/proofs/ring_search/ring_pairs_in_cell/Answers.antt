-- The slots of the row's cell are near.
use Rattle.std.proofs.Common.{◌≡◌, true, false, option_map, ap, ◌∙◌, subst}
use Rattle.broad_index.specs.Members.{has_slot}
use Rattle.grid_cells.specs.Cells.{cell_of, IsInRow}
use Rattle.hier_grid.specs.Search.{Finds}
use Rattle.grid_cells.specs.Appended.{HasCells}
use Rattle.grid_cells.specs.AppendLaws.{from_none}
use Rattle.hier_grid.proofs.ring_search.ring_pairs_in_cell.Goals as goal

pub returns : goal.returns
returns c =
    let kept = c.args.kept.now in
    let own = c.args.own.now in
    let old = c.args.found.now.pairs.items in
    let new = c.pairs_among.new.self.pairs.items in
    let slots = c.visit_row.new.out.items in
    let among : Finds kept own false (λ q _. has_slot slots q ≡ true) old new =
    subst (λ m. Finds m own false (λ q _. has_slot slots q ≡ true) old new) c.boxes.ensures c.in_ok-pairs_among.ensures in
    let has : HasCells c.cells.result.now (IsInRow c.args.row.now) slots = from_none _ _ slots c.clear.ensures.items c.in_ok-visit_row.ensures.ok in
    record {
      sound = among.sound;
      more = among.more;
      found = λ q b e there m other due. among.found q b e (has q (cell_of b)
          (c.cells.ensures q ∙ ap (option_map cell_of) e) there) m other due;
    }
