use Rattle.std.proofs.Common.{◌≡◌, [], replicate}
use Rattle.overlap_count.proofs.counts.Counts.new.Given as goal

-- so many lists without a count, and sets without a slot
abbrev pub invariant-by_slot : goal.invariant-by_slot
invariant-by_slot l = record {
  by_slot : l.by_slot.items ≡ replicate l._slot [];
  sets : l.full.items ≡ replicate l._slot [];
}
