use Rattle.std.proofs.Common.{◌≡◌, ◌++◌, ◌-◌, take, vec_len}
use Rattle.fixed_box.specs.declared.TheConstants.{SLOTS}
use Rattle.cell_table.specs.Kept.{picked, walk}
use Rattle.cell_table.proofs.cells.push_chain.Given as goal

-- what is appended, and what the rest of the walk would pick, are all that is picked
abbrev pub invariant-walk : goal.invariant-walk
invariant-walk l = record {
  picked : l.out.items ++ picked l.key l.keys (walk l.next (SLOTS - l._step) l.at) ≡ l.fn.out.items ++ picked l.key l.keys (walk l.next SLOTS l.first);
  kept : take (vec_len l.fn.out) l.out.items ≡ l.fn.out.items;
}
