-- The row has the x of the corner, and this y.
use Rattle.std.proofs.Common.{ap, sym, ◌∙◌, subst, w32, SFits, rules}
use Rattle.std.proofs.Math.Facts.{to_z-of_z}
use Rattle.std.specs.Prelude.{◌≤ℤ◌, ◌<ℤ◌}
use Rattle.cell_table.specs.declared.cell_key.CellKey.{CellKey}
use Rattle.grid_cells.proofs.near_cells.row_at.Goals as goal

pub returns : goal.returns
returns c k lo hi column =
    let fits : SFits w32 c.args.end.now.z = search rules in
    let fits_y : SFits w32 c.args.y = search rules in
    record {
      low = subst (λ (w : CellKey). w.z ≤ℤ k.z) (sym c.with_y.ensures) lo;
      high = subst (λ e. k.z <ℤ e) (sym (to_z-of_z fits)) hi;
      column = column ∙ ap (λ n. record c.args.from.now { y = n; z = k.z }) (sym (to_z-of_z fits_y))
          ∙ sym (ap (λ (w : CellKey). record w { z = k.z }) c.with_y.ensures);
    }
