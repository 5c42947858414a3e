use Rattle.std.proofs.Common.{◌≡◌, ◌++◌, ◌+◌, ◌==◌, length, take, vec_len}
use Rattle.fixed_box.specs.declared.TheConstants.{SLOTS}
use Rattle.cell_table.specs.Kept.{slots_from}
use Rattle.cell_table.proofs.cells.push_level.Given as goal

abbrev pub invariant-slots : goal.invariant-slots
invariant-slots l = record {
  found : l.out.items ++ slots_from (λ k. k.level == l.level) l.slot l.rest ≡ l.fn.out.items ++ slots_from (λ k. k.level == l.level) 0 l.keys;
  count : l.slot + length l.rest ≡ SLOTS;
  kept : take (vec_len l.fn.out) l.out.items ≡ l.fn.out.items;
}

abbrev pub decreases-slots : goal.decreases-slots
decreases-slots l = length l.rest
