-- The boxes of the row stand in the two stretches of the list.
use Rattle.std.proofs.Common.{◌≡◌, ◌⊎◌, ◌-◌, true, Some, option_map, ap, sym, ◌∙◌, subst, inl, inr, w32, SFits, rules, arith}
use Rattle.std.proofs.Math.Facts.{to_z-of_z}
use Rattle.std.specs.Prelude.{◌<ℤ◌}
use Rattle.broad_index.specs.Members.{has_slot}
use Rattle.grid_cells.specs.Cells.{standing_cell}
use Rattle.grid_boxes.specs.Copies.{slots_of, stretch}
use Rattle.grid_boxes.proofs.BucketLemmas.{of_stretch, slot_in_stretch}
use Rattle.grid_boxes.proofs.bucket_boxes.BucketBoxes.row.Goals as goal

pub returns-clause-whole : goal.returns-clause-whole
returns-clause-whole c bodies filled =
    let es = c.args.self.now.copies in
    let slots = c.args.self.now.list.slots in
    let cell = standing_cell c.args.self.now.floor in
    let row = c.row.result in
    let places = c.row.ensures in
    let fits : SFits w32 c.args.row.now.end = search rules in
    record {
      first_right = of_stretch bodies es row.from (row.to - row.from) filled.right;
      rest_right = of_stretch bodies es 0 (row.wrapped - 0) filled.right;
      whole = λ q b e at.
          let stands = places.whole filled.cells (cell b).z q filled.listed at.low (subst (λ z. (cell b).z <ℤ z) (sym (to_z-of_z fits)) at.high)
          (filled.keyed q ∙ ap (option_map cell) e ∙ ap Some at.column) in
          elim stands.inside as
          (λ _. (has_slot (slots_of (stretch row.from row.to es)) q ≡ true) ⊎ (has_slot (slots_of (stretch 0 row.wrapped es)) q ≡ true)) [
            | inl i ↦ inl (slot_in_stretch es slots row.from (row.to - row.from) stands.place q filled.same i.0
                (omega (arith, i.1, places.ordered)) (omega (arith, i.1, places.inside)) stands.is)
            | inr i ↦ inr (slot_in_stretch es slots 0 (row.wrapped - 0) stands.place q filled.same (omega arith)
                (omega (arith, i)) (omega (arith, i, places.apart, places.ordered, places.inside)) stands.is)
          ];
    }
