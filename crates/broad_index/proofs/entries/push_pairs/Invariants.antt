-- What is appended, and the pairs at the places that are left, are those at all.
use Rattle.std.proofs.Common.{◌≡◌, ◌-◌, ◌++◌, drop, length, take, vec_len}
use Rattle.broad_index.specs.Entries.{pairs_at}
use Rattle.broad_index.proofs.entries.push_pairs.Given as goal

abbrev pub invariant-places : goal.invariant-places
invariant-places l = record {
  found : l.out.items ++ pairs_at l.slot l.slots (drop l.at l.places) ≡ l.fn.out.items ++ pairs_at l.slot l.slots l.places;
  kept : take (vec_len l.fn.out) l.out.items ≡ l.fn.out.items;
}

abbrev pub decreases-places : goal.decreases-places
decreases-places l = length l.places - l.at
