-- A number in an earlier cell lies before the start of this one, and a box reaches less than a cell further.
use Rattle.std.proofs.Common.{◌≡◌, ap, ◌∙◌, arith, w32}
use Rattle.std.proofs.lemmas.Int.{ints, to_z-of_z}
use Rattle.std.specs.Prelude.{pos, ◌+ℤ◌, ◌*ℤ◌}
use Rattle.fixed_box.specs.Bounds.{cell_side}
use Rattle.grid_cells.specs.CellLaws.{some_side, stops}
use Rattle.grid_cells.proofs.cell.high_face.Goals as goal

pub returns : goal.returns
returns c x y high at short =
    let side = cell_side c.args.level in
    let is : (c.reach_of.result +ℤ pos 2) ≡ ((c.args.end *ℤ pos side) +ℤ pos side) =
    c.reach_of.ensures ∙ ap (λ z. (z *ℤ pos side) +ℤ pos side) (to_z-of_z w32 c.args.end c.ranges.end) in
    let start = stops c.args.end x side (some_side c.args.level) at in
    let end = c.clamped.ensures.high y high (omega (arith, ints, is, start, short)) in
    omega (arith, ints, end)
