-- A cell that is at most that of a number starts at most there.
use Rattle.std.proofs.Common.{◌≡◌, ap, sym, ◌∙◌, arith, subst, w32}
use Rattle.std.proofs.lemmas.Int.{ints, to_z-of_z}
use Rattle.std.specs.Prelude.{pos, ◌*ℤ◌, ◌≤ℤ◌}
use Rattle.fixed_box.specs.Bounds.{cell_side}
use Rattle.grid_cells.specs.CellLaws.{some_side, starts}
use Rattle.grid_cells.proofs.cell.low_face.Goals as goal

pub returns : goal.returns
returns c x low at =
    let side = cell_side c.args.level in
    let is : c.start_of.result ≡ (c.args.cell *ℤ pos side) =
    c.start_of.ensures ∙ ap (λ z. z *ℤ pos side) (to_z-of_z w32 c.args.cell c.ranges.cell) in
    let start : c.start_of.result ≤ℤ x = subst (λ z. z ≤ℤ x) (sym is) (starts c.args.cell x side (some_side c.args.level) at) in
    let end = c.clamped.ensures.low x low (omega (arith, ints, start)) in
    omega (arith, ints, end)
