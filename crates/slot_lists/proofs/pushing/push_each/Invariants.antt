-- What is there, and what is made of the rest, is what was there and what is made of all. What was there stays.
use Rattle.std.proofs.Common.{◌≡◌, ◌++◌, length, map, take, vec_len}
use Rattle.slot_lists.proofs.pushing.push_each.Given as goal

abbrev pub invariant-items : goal.invariant-items
invariant-items g l = record {
  all_made :
      (made : g.row.T.Denot → g.row.U.Denot) → ((item : _) (r : g.row.U.Denot) → goal.F-post g l.make item r → r ≡ made item.now)
      → l.out.items ++ map made l.rest ≡ l.fn.out.items ++ map made l.items;
  kept : take (vec_len l.fn.out) l.out.items ≡ l.fn.out.items;
}

abbrev pub decreases-items : goal.decreases-items
decreases-items g l = length l.rest
