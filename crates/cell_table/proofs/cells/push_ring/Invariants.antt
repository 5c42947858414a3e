use Rattle.std.proofs.Common.{◌≡◌, ◌++◌, ◌-◌, take, vec_len}
use Rattle.fixed_box.specs.declared.TheConstants.{SLOTS}
use Rattle.cell_table.specs.Kept.{walk}
use Rattle.cell_table.proofs.cells.push_ring.Given as goal

-- what is appended, and what the rest of the walk meets, are all that it meets
abbrev pub invariant-ring : goal.invariant-ring
invariant-ring l = record {
  met : l.out.items ++ walk l.next (SLOTS - l._step) l.node ≡ l.fn.out.items ++ walk l.next SLOTS l.first;
  kept : take (vec_len l.fn.out) l.out.items ≡ l.fn.out.items;
}
