use Rattle.std.proofs.Common.{◌≡◌, ◌++◌, ℕ, take, vec_len}
use Rattle.overlap_count.specs.SlotCounts.{pairs_of_bits, IsLeft}
use Rattle.overlap_count.proofs.full_pairs.push_bits.Given as goal

-- the pairs of the places before some place are there, and the bits from it on are left
abbrev pub invariant-bits : goal.invariant-bits
invariant-bits l = record {
  place : ℕ;
  left : IsLeft l.word l.rest place;
  found : l.out.items ≡ l.fn.out.items ++ pairs_of_bits l.a l.base l.word place;
  kept : take (vec_len l.fn.out) l.out.items ≡ l.fn.out.items;
}

abbrev pub decreases-bits : goal.decreases-bits
decreases-bits l = l.rest
