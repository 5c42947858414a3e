-- What is written, and what the rest of the walk meets, are all that it meets.
use Rattle.std.proofs.Common.{◌≡◌, ◌+◌, ◌-◌, ◌++◌, length, take}
use Rattle.fixed_box.specs.declared.TheConstants.{SLOTS}
use Rattle.cell_table.specs.Kept.{walk}
use Rattle.cell_table.proofs.cells.put_ring.Given as goal

abbrev pub invariant-ring : goal.invariant-ring
invariant-ring l = record {
  room : l.len + length (walk l.next (SLOTS - l._step) l.later) ≡ l.place + length (walk l.next SLOTS l.first);
  met : take l.len l.slots ++ walk l.next (SLOTS - l._step) l.later ≡ take l.place l.fn.slots ++ walk l.next SLOTS l.first;
}
