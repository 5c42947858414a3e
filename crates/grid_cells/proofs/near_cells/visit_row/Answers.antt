-- The visit appends all slots of the row.
use Rattle.std.proofs.Common.{Some, sym, ap, ◌∙◌, subst, w32, to_z, of_z, SFits, rules}
use Rattle.std.proofs.Math.Facts.{to_z-of_z}
use Rattle.std.proofs.lemmas.Result.{on_ok_weaker}
use Rattle.std.specs.Prelude.{◌<ℤ◌}
use Rattle.cell_table.specs.Cells.{VisitsRow}
use Rattle.grid_cells.specs.SlotLaws.{has_slot_is}
use Rattle.grid_cells.proofs.near_cells.visit_row.Goals as goal

pub returns-clause-ok : goal.returns-clause-ok
returns-clause-ok c =
    let table = c.args.table.now in
    let row = c.args.row.now in
    let old = c.args.out.now.items in
    let new = c.visit_row.new.out.items in
    let fits : SFits w32 row.end = search rules in
    on_ok_weaker c.visit_row.result (λ (v : VisitsRow table row.key (to_z w32 (of_z w32 row.end)) old new). record {
      slots = v.slots;
      appended = v.appended;
      has = λ q k e there. sym (has_slot_is v.slots q)
          ∙ v.members k.z q there.low (subst (λ z. k.z <ℤ z) (sym (to_z-of_z fits)) there.high) (e ∙ ap Some there.column);
    }) c.visit_row.ensures.ok
