use Rattle.std.proofs.Common.{◌≡◌, ◌≤◌, ◌&&◌, ℕ, cond, eqb, ltb, length}
use Rattle.overlap_count.specs.Counts.{count_of}
use Rattle.overlap_count.specs.SlotCounts.{mark_of}
use Rattle.overlap_count.proofs.TableLemmas.{mark}
use Rattle.overlap_count.proofs.counts.Counts.forget_higher.Given as goal

-- the slot's own set is empty, and the lists of the higher slots so far count nothing at its place
abbrev pub invariant-by_slot : goal.invariant-by_slot
invariant-by_slot l = record {
  all : length l.self-inside.by_slot.items ≡ 8192;
  all_sets : length l.self-inside.full.items ≡ 8192;
  small : (x y : ℕ) → count_of l.fn.self x y ≤ 3;
  known : length l.fn.self ≡ 8192;
  marked : (x y : ℕ) → mark_of l.self-inside.full.items x y ≡ cond (eqb x l.slot) 0 (mark (count_of l.fn.self x y));
  counts : (x y : ℕ) → count_of l.self-inside.by_slot.items x y ≡ cond (eqb x l.slot && ltb y l.b) 0 (count_of l.fn.self x y);
}
