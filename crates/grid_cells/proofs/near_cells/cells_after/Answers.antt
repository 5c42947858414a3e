-- A cell that comes after another has a greater z, or a greater y, or a greater x.
use Rattle.std.proofs.Common.{ap, sym, ◌∙◌, arith, inl, inr}
use Rattle.std.proofs.lemmas.Int.{ints}
use Rattle.grid_cells.specs.Cells.{IsAmong}
use Rattle.grid_cells.specs.declared.later_cells.LaterCells.{LaterCells}
use Rattle.grid_cells.proofs.near_cells.cells_after.Goals as goal

pub returns : goal.returns
returns c k l b after =
    let cells : LaterCells =
    record { row = c.after_on_z.result; plane = c.after_on_y.result; block = c.after_on_x.result; end = c.end_beside.result } in
    elim after as (λ _. IsAmong cells k) [
      | inl x ↦ inr (inr (record {
        level = l ∙ sym c.after_on_x.ensures.level;
        low_x = omega (arith, ints, c.after_on_x.ensures.x, x);
        high_x = omega (arith, ints, c.end_beside.ensures.x, b.x.high);
        low_y = omega (arith, ints, c.after_on_x.ensures.y, b.y.low);
        high_y = omega (arith, ints, c.end_beside.ensures.y, b.y.high);
        low_z = omega (arith, ints, c.after_on_x.ensures.z, b.z.low);
        high_z = omega (arith, ints, c.end_beside.ensures.z, b.z.high);
      }))
      | inr r ↦ elim r as (λ _. IsAmong cells k) [
        | inl y ↦ inr (inl (record {
          low_y = omega (arith, ints, c.after_on_y.ensures.y, y.1);
          high_y = omega (arith, ints, c.end_beside.ensures.y, b.y.high);
          low_z = omega (arith, ints, c.after_on_y.ensures.z, b.z.low);
          high_z = omega (arith, ints, c.end_beside.ensures.z, b.z.high);
          plane = ap (λ n. record k { level = n }) (l ∙ sym c.after_on_y.ensures.level)
              ∙ ap (λ n. record k { level = c.after_on_y.result.level; x = n }) (y.0 ∙ sym c.after_on_y.ensures.x);
        }))
        | inr z ↦ inl (record {
          low = omega (arith, ints, c.after_on_z.ensures.z, z.1.1);
          high = omega (arith, ints, c.end_beside.ensures.z, b.z.high);
          column = ap (λ n. record k { level = n }) (l ∙ sym c.after_on_z.ensures.level)
              ∙ ap (λ n. record k { level = c.after_on_z.result.level; x = n }) (z.0 ∙ sym c.after_on_z.ensures.x)
              ∙ ap (λ n. record c.after_on_z.result { y = n; z = k.z }) (z.1.0 ∙ sym c.after_on_z.ensures.y);
        })
      ]
    ]
