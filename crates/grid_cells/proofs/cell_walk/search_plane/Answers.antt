-- A cell of this row, or one of an earlier row.
use Rattle.std.proofs.Common.{ap, ◌∙◌, ◌⊎◌, inl, inr, arith, w32, to_z}
use Rattle.std.proofs.lemmas.Int.{ints}
use Rattle.fixed_box.proofs.Numbers.{int_next}
use Rattle.grid_cells.specs.Cells.{IsInPlane, IsInRow}
use Rattle.grid_cells.specs.AppendLaws.{anyway}
use Rattle.grid_cells.specs.WalkLaws.{covers_among, covers_both, covers_none, covers_row}
use Rattle.grid_cells.proofs.cell_walk.search_plane.Goals as goal

pub plane-init : goal.plane-init
plane-init g c = covers_none g.S.RowSearch.searched _ _ (g.met.S.RowSearch.none _) (λ k at. absurd (omega (arith, ints, at.low_y, at.high_y)))

pub plane-preserved : goal.plane-preserved
plane-preserved g c =
    let from = c.args.from.now in
    covers_both g.S.RowSearch.searched _ _ _ _ _ _ (λ xs ys. g.met.S.RowSearch.both xs ys _ _ _) (λ k at. elim
    (int_next k.y (to_z w32 c.plane.y-bits) _ (omega (arith, ints, c.plane-test.true, c.plane.auto.y-fits)) at.high_y) as
    (λ _. IsInPlane from (record c.args.end.now { y = to_z w32 c.plane.y-bits }) k ⊎ IsInRow c.row_at.result k) [
      | inl below ↦ inl (record { low_y = at.low_y; high_y = below; low_z = at.low_z; high_z = at.high_z; plane = at.plane })
      | inr here ↦ inr (c.row_at.ensures k at.low_z at.high_z (at.plane ∙ ap (λ n. record from { y = n; z = k.z }) here))
    ]) c.plane.invariant (covers_row g.S.RowSearch.searched _ _ _ c.in_ok-search_row.ensures.ok)

pub returns-clause-ok : goal.returns-clause-ok
returns-clause-ok g c = covers_among g.S.RowSearch.searched _ _ _ _ (λ k at. record {
  low_y = at.low_y;
  high_y = omega (arith, ints, c.plane-test.false, at.high_y);
  low_z = at.low_z;
  high_z = at.high_z;
  plane = at.plane;
}) c.plane.invariant

pub returns-in_err-search_row-clause-err : goal.returns-in_err-search_row-clause-err
returns-in_err-search_row-clause-err g c = anyway _ (g.met.S.RowSearch.stops _ _ _ _ c.plane.invariant.looked c.in_err-search_row.ensures.err)
