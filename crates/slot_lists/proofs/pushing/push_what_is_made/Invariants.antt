-- What is there, and what is made of the rest, is what was there and what is made of all. What was there stays.
use Rattle.std.proofs.Common.{◌≡◌, ◌++◌, Option, length, take, vec_len}
use Rattle.std.specs.List.{filter_map}
use Rattle.slot_lists.proofs.pushing.push_what_is_made.Given as goal

abbrev pub invariant-items : goal.invariant-items
invariant-items g l = record {
  all_made :
      (made : g.row.T.Denot → Option g.row.U.Denot) → ((item : _) (r : Option g.row.U.Denot) → goal.F-post g l.make item r → r ≡ made item.now)
      → l.out.items ++ filter_map made l.rest ≡ l.fn.out.items ++ filter_map made l.items;
  kept : take (vec_len l.fn.out) l.out.items ≡ l.fn.out.items;
}

abbrev pub decreases-items : goal.decreases-items
decreases-items g l = length l.rest
