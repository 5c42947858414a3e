use Rattle.std.proofs.Common.{◌≡◌, ◌≤◌, ◌&&◌, ℕ, cond, eqb, ltb, length}
use Rattle.overlap_count.specs.Counts.{count_of}
use Rattle.overlap_count.specs.SlotCounts.{mark_of}
use Rattle.overlap_count.proofs.TableLemmas.{mark}
use Rattle.overlap_count.proofs.counts.Counts.forget_lower.Given as goal

-- the lists are as they were, and the sets of the lower slots so far have lost the slot
abbrev pub invariant-sets : goal.invariant-sets
invariant-sets l = record {
  same : l.self-inside.by_slot.items ≡ l.fn.self;
  all : length l.self-inside.by_slot.items ≡ 8192;
  all_sets : length l.self-inside.full.items ≡ 8192;
  small : (x y : ℕ) → count_of l.self-inside.by_slot.items x y ≤ 3;
  marked : (x y : ℕ) → mark_of l.self-inside.full.items x y ≡ cond (eqb y l.slot && ltb x l.a) 0 (mark (count_of l.self-inside.by_slot.items x y));
}
