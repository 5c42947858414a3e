-- A box of a later cell that meets the own one lies beside it.
use Rattle.std.proofs.Common.{◌≡◌, ℕ, ◌≤◌, true, Some, ap, sym, ◌∙◌, subst, arith}
use Rattle.std.specs.Prelude.{max}
use Rattle.std.specs.FinMap.{get}
use Rattle.fixed_box.specs.Bounds.{Bounds, level_of, meets}
use Rattle.grid_cells.specs.Cells.{cell_on, standing_cell, IsAfter, IsAmong, IsBeside}
use Rattle.grid_cells.specs.CellLaws.{met_low}
use Rattle.hier_grid.specs.Listing.{Standing}
use Rattle.hier_grid.specs.Search.{IsLaterBeside}
use Rattle.hier_grid.proofs.searched.Searched.cells_after.Goals as goal

pub returns : goal.returns
returns c =
    let body = c.args.body.now in
    let level = c.args.level in
    let floor = c.self.inside.copied.now.floor in
    let cell = standing_cell floor in
    let stood : level ≡ max (level_of body) floor = c.requires.level ∙ ap (λ (v : Standing). max (level_of body) v.floor) (sym c.self.view_is) in
    let at : cell body ≡ cell_on level body.lo = ap (λ n. cell_on n body.lo) (sym stood) in
    subst (λ (v : Standing). (q : ℕ) (b : Bounds) → get v.bodies q ≡ Some b → IsLaterBeside (standing_cell v.floor) body b → meets body b ≡ true
    → IsAmong c.cells_after.result (standing_cell v.floor b)) c.self.view_is (λ q b e due m.
    let same : max (level_of b) floor ≡ level = due.0 ∙ sym stood in
    let low : level_of b ≤ level = omega (arith, same) in
    let stands : cell b ≡ cell_on level b.lo = ap (λ n. cell_on n b.lo) same in
    c.cells_after.ensures (cell b) same
    (subst (IsBeside level body) (sym stands) (met_low level body b (c.sized_law.ensures q b e) low m))
    (subst (IsAfter (cell b)) at due.1))
