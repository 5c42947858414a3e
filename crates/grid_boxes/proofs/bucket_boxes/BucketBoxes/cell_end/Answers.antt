-- The boxes of a cell stand in the two stretches of its row.
use Rattle.std.proofs.Common.{◌≡◌, ◌⊎◌, true, sym, ◌∙◌, subst, inl, inr, arith, take}
use Rattle.broad_index.specs.Members.{has_slot}
use Rattle.grid_cells.specs.Cells.{IsInRow}
use Rattle.grid_boxes.specs.Copies.{slots_of, stretch}
use Rattle.grid_boxes.proofs.CopyLemmas.{behind_or_before}
use Rattle.grid_boxes.proofs.bucket_boxes.BucketBoxes.cell_end.Goals as goal

pub returns-clause-whole : goal.returns-clause-whole
returns-clause-whole c bodies filled q b e same =
    let es = c.args.self.now.copies in
    let from = c.args.from in
    let places = c.row-places.result in
    let end = c.max-2.result in
    let there = (c.row-places.ensures.whole bodies filled).whole q b e
    (subst (IsInRow c.row_of.result) (c.standing_cell.ensures.value ∙ sym same) c.row_of.ensures) in
    elim there as (λ _. (has_slot (slots_of (take from es)) q ≡ true) ⊎ (has_slot (slots_of (stretch from end es)) q ≡ true)) [
      | inl i ↦ behind_or_before es places.from places.to from end q c.row-places.ensures.ordered (omega arith) (omega arith) i
      | inr i ↦ behind_or_before es 0 places.wrapped from end q (omega arith) (omega arith) (omega arith) i
    ]
