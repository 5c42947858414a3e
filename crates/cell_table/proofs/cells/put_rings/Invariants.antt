-- The rings of the buckets so far.
use Rattle.std.proofs.Common.{◌≡◌, ℕ, ◌<◌, length, slice_index, take}
use Rattle.cell_table.specs.Kept.{rings_to}
use Rattle.cell_table.proofs.cells.put_rings.Given as goal

abbrev pub invariant-buckets : goal.invariant-buckets
invariant-buckets l = record {
  len_is : l.len ≡ length (rings_to l.next l.bucket);
  starts_are : (b : ℕ) → b < l.bucket → slice_index l.starts b ≡ length (rings_to l.next b);
  slots_are : take l.len l.slots ≡ rings_to l.next l.bucket;
}
