-- What is there, and what passes among the rest, is what was there and all that passes. What was there stays.
use Rattle.std.proofs.Common.{◌≡◌, ◌++◌, Bool, filter, length, take, vec_len}
use Rattle.slot_lists.proofs.pushing.push_passing.Given as goal

abbrev pub invariant-items : goal.invariant-items
invariant-items g l = record {
  passed :
      (test : g.row.T.Denot → Bool) → ((item : _) (r : Bool) → goal.F-post g l.passes item r → r ≡ test item.now)
      → l.out.items ++ filter test l.rest ≡ l.fn.out.items ++ filter test l.items;
  kept : take (vec_len l.fn.out) l.out.items ≡ l.fn.out.items;
}

abbrev pub decreases-items : goal.decreases-items
decreases-items g l = length l.rest
