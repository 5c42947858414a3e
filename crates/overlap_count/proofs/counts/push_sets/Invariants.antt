use Rattle.std.proofs.Common.{◌≡◌, ◌++◌, take, vec_len}
use Rattle.overlap_count.specs.FullPairs.{pairs_below}
use Rattle.overlap_count.specs.SlotCounts.{is_marked}
use Rattle.overlap_count.proofs.counts.push_sets.Given as goal

-- the pairs of the slots so far
abbrev pub invariant-sets : goal.invariant-sets
invariant-sets l = record {
  found : l.out.items ≡ l.fn.out.items ++ pairs_below (is_marked l.sets) l.a;
  kept : take (vec_len l.fn.out) l.out.items ≡ l.fn.out.items;
}
