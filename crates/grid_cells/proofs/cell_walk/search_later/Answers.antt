-- A cell in the row, in the plane or in the block.
use Rattle.std.proofs.Common.{ap, sym, ◌∙◌, ◌⊎◌, inl, inr, w32, SFits, rules}
use Rattle.std.proofs.Math.Facts.{to_z-of_z}
use Rattle.std.proofs.lemmas.Result.{on_err_weaker, on_ok_weaker}
use Rattle.grid_cells.specs.Cells.{IsInBlock, IsInPlane, IsInRow}
use Rattle.grid_cells.specs.AppendLaws.{anyway}
use Rattle.grid_cells.specs.WalkLaws.{covers_both, covers_row}
use Rattle.grid_cells.proofs.cell_walk.search_later.Goals as goal

pub returns-clause-ok : goal.returns-clause-ok
returns-clause-ok g c =
    let cells = c.args.cells.now in
    let first = cells.row in
    let fits : SFits w32 first.y = search rules in
    let two = covers_both g.S.RowSearch.searched (IsInRow c.row_at.result) (IsInPlane cells.plane cells.end)
    (λ k. IsInRow c.row_at.result k ⊎ IsInPlane cells.plane cells.end k) _ _ _ (λ xs ys. g.met.S.RowSearch.both xs ys _ _ _) (λ k at. at)
    (covers_row g.S.RowSearch.searched _ _ _ c.in_ok-search_row.ensures.ok) c.in_ok-search_plane.ensures.ok in
    on_ok_weaker c.search_block.result (covers_both g.S.RowSearch.searched _ _ _ _ _ _ (λ xs ys. g.met.S.RowSearch.both xs ys _ _ _)
    (λ k at. elim at as (λ _. (IsInRow c.row_at.result k ⊎ IsInPlane cells.plane cells.end k)
    ⊎ IsInBlock (record { from = cells.block; end = cells.end }) k) [
      | inl r ↦ inl (inl (c.row_at.ensures k r.low r.high (r.column ∙ ap (λ n. record first { y = n; z = k.z }) (sym (to_z-of_z fits)))))
      | inr o ↦ elim o as (λ _. (IsInRow c.row_at.result k ⊎ IsInPlane cells.plane cells.end k)
          ⊎ IsInBlock (record { from = cells.block; end = cells.end }) k) [
            | inl p ↦ inl (inr p)
            | inr d ↦ inr d
          ]
    ]) two) c.search_block.ensures.ok

pub returns-clause-err : goal.returns-clause-err
returns-clause-err g c =
    let first = g.met.S.RowSearch.stops _ _ _ _ c.in_ok-search_row.ensures.ok in
    on_err_weaker c.search_block.result (λ stop. first (g.met.S.RowSearch.stops _ _ _ _ c.in_ok-search_plane.ensures.ok.looked stop))
    c.search_block.ensures.err

pub returns-in_err-search_plane-clause-err : goal.returns-in_err-search_plane-clause-err
returns-in_err-search_plane-clause-err g c = anyway _ (g.met.S.RowSearch.stops _ _ _ _ c.in_ok-search_row.ensures.ok c.in_err-search_plane.ensures.err)
