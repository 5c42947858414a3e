-- A box that stands at the level stands in a cell beside each box that it meets.
use Rattle.std.proofs.Common.{◌≡◌, ℕ, ◌≤◌, true, Some, ap, sym, refl, subst, arith}
use Rattle.std.specs.Prelude.{max}
use Rattle.std.specs.FinMap.{get}
use Rattle.fixed_box.specs.Bounds.{Bounds, level_of, meets}
use Rattle.grid_cells.specs.Cells.{cell_on, standing_cell, IsInBlock}
use Rattle.grid_cells.specs.CellLaws.{met_low}
use Rattle.hier_grid.specs.Listing.{Standing}
use Rattle.hier_grid.proofs.searched.Searched.cells_beside.Goals as goal

pub returns : goal.returns
returns c =
    let body = c.args.body.now in
    let level = c.args.level in
    subst (λ (v : Standing). (q : ℕ) (b : Bounds) → get v.bodies q ≡ Some b → max (level_of b) v.floor ≡ level → meets body b ≡ true
    → IsInBlock c.block_beside.result (standing_cell v.floor b)) c.self.view_is (λ q b e at m.
    let low : level_of b ≤ level = omega (arith, at) in
    subst (IsInBlock c.block_beside.result) (sym (ap (λ n. cell_on n b.lo) at))
    (c.block_beside.ensures.whole (cell_on level b.lo) refl (met_low level body b (c.sized_law.ensures q b e) low m)))
