-- A cell at this x, or one at an earlier x.
use Rattle.std.proofs.Common.{ap, sym, ◌∙◌, ◌⊎◌, subst, inl, inr, arith, w32, to_z}
use Rattle.std.proofs.lemmas.Int.{ints}
use Rattle.cell_table.specs.declared.cell_key.CellKey.{CellKey}
use Rattle.fixed_box.proofs.Numbers.{int_next}
use Rattle.grid_cells.specs.Cells.{IsInBlock, IsInPlane}
use Rattle.grid_cells.specs.AppendLaws.{anyway}
use Rattle.grid_cells.specs.WalkLaws.{covers_among, covers_both, covers_none}
use Rattle.grid_cells.proofs.cell_walk.search_block.Goals as goal

pub block-init : goal.block-init
block-init g c = covers_none g.S.RowSearch.searched _ _ (g.met.S.RowSearch.none _) (λ k at. absurd (omega (arith, ints, at.low_x, at.high_x)))

pub block-preserved : goal.block-preserved
block-preserved g c =
    let block = c.args.block.now in
    covers_both g.S.RowSearch.searched _ _ _ _ _ _ (λ xs ys. g.met.S.RowSearch.both xs ys _ _ _) (λ k at. elim
    (int_next k.x (to_z w32 c.block.x-bits) _ (omega (arith, ints, c.block-test.true, c.block.auto.x-fits)) at.high_x) as
    (λ _. IsInBlock (record block { end = record block.end { x = to_z w32 c.block.x-bits } }) k ⊎ IsInPlane c.with_x.result block.end k) [
      | inl below ↦ inl (record {
        level = at.level;
        low_x = at.low_x;
        high_x = below;
        low_y = at.low_y;
        high_y = at.high_y;
        low_z = at.low_z;
        high_z = at.high_z;
      })
      | inr here ↦ inr (subst (λ (w : CellKey). IsInPlane w block.end k) (sym c.with_x.ensures) (record {
        low_y = at.low_y;
        high_y = at.high_y;
        low_z = at.low_z;
        high_z = at.high_z;
        plane = ap (λ n. record k { level = n }) at.level ∙ ap (λ n. record k { level = block.from.level; x = n }) here;
      }))
    ]) c.block.invariant c.in_ok-search_plane.ensures.ok

pub returns-clause-ok : goal.returns-clause-ok
returns-clause-ok g c = covers_among g.S.RowSearch.searched _ _ _ _ (λ k at. record {
  level = at.level;
  low_x = at.low_x;
  high_x = omega (arith, ints, c.block-test.false, at.high_x);
  low_y = at.low_y;
  high_y = at.high_y;
  low_z = at.low_z;
  high_z = at.high_z;
}) c.block.invariant

pub returns-in_err-search_plane-clause-err : goal.returns-in_err-search_plane-clause-err
returns-in_err-search_plane-clause-err g c = anyway _ (g.met.S.RowSearch.stops _ _ _ _ c.block.invariant.looked c.in_err-search_plane.ensures.err)
