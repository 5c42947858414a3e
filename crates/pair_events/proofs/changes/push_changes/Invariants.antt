-- what was found on each side, before what the lists that are left have alone, is what the lists have alone
use Rattle.std.proofs.Common.{◌≡◌, ◌+◌, ◌++◌, true, length}
use Rattle.pair_events.specs.PairEvents.{rises}
use Rattle.pair_events.specs.PairEvents.{missing}
use Rattle.pair_events.proofs.changes.push_changes.Given as goal

abbrev pub invariant-merge : goal.invariant-merge
invariant-merge l = record {
  left_up : rises l.left ≡ true;
  right_up : rises l.right ≡ true;
  began : l.began.items ++ missing l.right l.left ≡ l.fn.began.items ++ missing l.now l.before;
  over : l.over.items ++ missing l.left l.right ≡ l.fn.over.items ++ missing l.before l.now;
}

abbrev pub decreases-merge : goal.decreases-merge
decreases-merge l = length l.left + length l.right
