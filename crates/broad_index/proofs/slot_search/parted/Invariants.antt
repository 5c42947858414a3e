use Rattle.std.proofs.Common.{◌≡◌, ◌*◌, ◌≤◌, ◌++◌, length, map}
use Rattle.std.specs.List.{sum}
use Rattle.std.specs.Vec.Iter.{into_iter_items}
use Rattle.broad_index.proofs.slot_search.parted.Given as goal

-- the lists and the sum so far
abbrev pub invariant-found : goal.invariant-found
invariant-found l = record {
  lists : map (λ list. list.items) l.lists.items ≡ map (λ one. one.0.items) l.yielded;
  cost : l.cost ≡ sum (map (λ one. one.1) l.yielded);
  bound : l.cost ≤ 4294967295 * length l.yielded;
  split : l.yielded ++ into_iter_items l.list-iterator ≡ l.fn.found.items;
}
