-- A pair is found in the own cell, or in others.
use Rattle.std.proofs.Common.{◌≡◌, true, sym, ◌∙◌, subst, inl, inr}
use Rattle.broad_index.specs.Members.{has_pair}
use Rattle.broad_index.specs.Touched.{ordered}
use Rattle.grid_cells.specs.Cells.{IsInRow}
use Rattle.hier_grid.proofs.PartnerLemmas.{higher}
use Rattle.hier_grid.proofs.ring_search.pairs_by_rings.Goals as goal

pub returns : goal.returns
returns c =
    let slot = c.args.own.now.slot in
    let mine = c.in_ok-ring_pairs_in_cell.ensures in
    let others = c.in_ok-ring_pairs_elsewhere.ensures in
    record {
      sound = λ own s. others.sound own (mine.sound own s);
      more = λ p h. others.more p (mine.more p h);
      found = λ q b e due m other any. elim due as (λ _. has_pair c.ring_pairs_elsewhere.new.found.pairs.items (ordered slot q) ≡ true) [
        | inl same ↦ others.more (ordered slot q) (mine.found q b e
            (subst (IsInRow c.row_of.result) (c.cell_of-cell.ensures.value ∙ sym same.0) c.row_of.ensures) m other (higher slot q same.1))
        | inr o ↦ others.found q b e o m other any
      ];
    }
