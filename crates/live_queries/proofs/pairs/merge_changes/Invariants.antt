-- What is there, the run that isn't copied yet, and what the pairs that are left make, is what was there and what all make; likewise of what
-- began and of what is over. The pairs of boxes that are left follow the run, rise and are current.
use Rattle.std.proofs.Common.{◌≡◌, ◌≤◌, ◌+◌, ◌-◌, ◌++◌, true, length, take, drop}
use Rattle.std.specs.List.{filter_map}
use Rattle.broad_index.specs.Near.{rises as slots_rise}
use Rattle.pair_events.specs.PairEvents.{missing, rises}
use Rattle.live_queries.specs.InHandles.{touching, AreCurrent}
use Rattle.live_queries.proofs.pairs.merge_changes.Given as goal

abbrev pub invariant-pairs : goal.invariant-pairs
invariant-pairs l = record {
  fits : length l.left ≤ length l.run;
  follows : drop (length l.run - length l.left) l.run ≡ l.left;
  left_up : rises l.left ≡ true;
  rest_up : slots_rise l.rest ≡ true;
  current : AreCurrent l.table.entries l.left;
  now :
      l.now.items ++ take (length l.run - length l.left) l.run ++ filter_map (touching l.table.entries) l.rest
      ≡ l.fn.now.items ++ filter_map (touching l.table.entries) l.pairs;
  began :
      l.began.items ++ missing (filter_map (touching l.table.entries) l.rest) l.left
      ≡ l.fn.began.items ++ missing (filter_map (touching l.table.entries) l.pairs) l.last;
  over :
      l.over.items ++ missing l.left (filter_map (touching l.table.entries) l.rest)
      ≡ l.fn.over.items ++ missing l.last (filter_map (touching l.table.entries) l.pairs);
}

abbrev pub decreases-pairs : goal.decreases-pairs
decreases-pairs l = length l.left + length l.rest
