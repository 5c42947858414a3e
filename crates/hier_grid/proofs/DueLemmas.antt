-- Which of two boxes is to find their pair, where boxes stand above a floor.
use Rattle.std.proofs.Common.{◌≡◌, ℕ, ◌<◌, ◌≤◌, sym, ap, ◌∙◌, arith, subst, inl, inr}
use Rattle.std.specs.Prelude.{max}
use Rattle.fixed_box.specs.Bounds.{Bounds, level_of}
use Rattle.cell_table.specs.declared.cell_key.CellKey.{CellKey}
use Rattle.grid_cells.specs.Cells.{cell_of, standing_cell, IsAfter}
use Rattle.grid_cells.specs.CellLaws.{stands_own}
use Rattle.hier_grid.specs.Search.{IsDue}

-- what a box that stands in its own cell is to find by the cells of boxes, it is to find by those in which they stand
pub due_stands : (floor slot : ℕ) (body : Bounds) (q : ℕ) (b : Bounds) → floor ≤ level_of body → IsDue cell_of slot body q b
    → IsDue (standing_cell floor) slot body q b
due_stands floor slot body q b low due =
    let own = stands_own floor body low in
    elim due as (λ _. IsDue (standing_cell floor) slot body q b) [
      | inl same ↦
          let level : level_of b ≡ level_of body = ap (λ (k : CellKey). k.level) same.0 in
          inl (stands_own floor b (omega (arith, low, level)) ∙ same.0 ∙ sym own, same.1)
      | inr other ↦ elim other as (λ _. IsDue (standing_cell floor) slot body q b) [
        | inl higher ↦ let h : max (level_of body) floor < max (level_of b) floor = omega (arith, low, higher) in inr (inl h)
        | inr later ↦
            let level : level_of b ≡ level_of body = later.0 in
            let stands = stands_own floor b (omega (arith, low, level)) in
            let same : max (level_of b) floor ≡ max (level_of body) floor = omega (arith, low, level) in
            inr (inr (same, subst (λ k. IsAfter k (standing_cell floor body)) (sym stands) (subst (IsAfter (cell_of b)) (sym own) later.1)))
      ]
    ]
