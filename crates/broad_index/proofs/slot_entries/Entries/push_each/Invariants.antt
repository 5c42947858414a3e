-- What is appended, and the pairs of the entries that are left, are the pairs of all.
use Rattle.std.proofs.Common.{◌≡◌, ◌-◌, ◌++◌, drop, take, vec_len}
use Rattle.std.specs.FinMap.{entries}
use Rattle.broad_index.specs.Near.{near_of}
use Rattle.broad_index.proofs.slot_entries.Entries.push_each.Given as goal

abbrev pub invariant-slots : goal.invariant-slots
invariant-slots l = record {
  found : l.out.items ++ near_of (drop l.at (entries l.self)) ≡ l.fn.out.items ++ near_of (entries l.self);
  kept : take (vec_len l.fn.out) l.out.items ≡ l.fn.out.items;
}

abbrev pub decreases-slots : goal.decreases-slots
decreases-slots l = l.len - l.at
