-- A partner stands in the own cell with a higher slot, or elsewhere.
use Rattle.std.proofs.Common.{◌≡◌, true, ap, sym, ◌∙◌, subst, inl, inr}
use Rattle.broad_index.specs.Members.{has_pair}
use Rattle.broad_index.specs.Touched.{ordered}
use Rattle.grid_cells.specs.Cells.{standing_cell, IsInRow}
use Rattle.hier_grid.proofs.PartnerLemmas.{higher}
use Rattle.hier_grid.proofs.due_pairs.pairs_of_standing.Goals as goal

pub returns : goal.returns
returns c =
    let own = c.args.own.now in
    let cell = standing_cell c.args.boxes.now.floor in
    let new = c.pairs_elsewhere.new.found.pairs.items in
    let row = c.in_ok-row_pairs.ensures in
    let stood : c.standing_cell.result ≡ cell own.body =
    c.standing_cell.ensures.value ∙ ap (λ n. standing_cell n own.body) c.copied.ensures.floor in
    let other = c.in_ok-pairs_elsewhere.ensures in
    record {
      sound = λ here s. other.sound here (row.sound here s);
      more = λ p h. other.more p (row.more p h);
      found = λ q b e due m o any. elim due as (λ _. has_pair new (ordered own.slot q) ≡ true) [
        | inl same ↦ other.more (ordered own.slot q) (row.found q b e
            (subst (IsInRow c.row_of-cell.result) (stood ∙ sym same.0) c.row_of-cell.ensures) m o (higher own.slot q same.1))
        | inr later ↦ other.found q b e later m o any
      ];
    }
