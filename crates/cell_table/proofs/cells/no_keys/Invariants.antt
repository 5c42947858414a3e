use Rattle.std.proofs.Common.{◌≡◌, ℕ, length, slice_index_or, None}
use Rattle.cell_table.proofs.cells.no_keys.Given as goal

abbrev pub invariant-keys : goal.invariant-keys
invariant-keys l = record {
  len : length l.keys.items ≡ l._slot;
  none : (k : ℕ) → slice_index_or l.keys.items k None ≡ None;
}
