-- The rings of the cells of smaller z are appended.
use Rattle.std.proofs.Common.{◌≡◌, take, vec_len}
use Rattle.cell_table.specs.Kept.{Rings}
use Rattle.cell_table.proofs.cells.push_row.Given as goal

abbrev pub invariant-row : goal.invariant-row
invariant-row l = record {
  rings : Rings l.next l.key l.z l.fn.out.items l.out.items;
  kept : take (vec_len l.fn.out) l.out.items ≡ l.fn.out.items;
}
