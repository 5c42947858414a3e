-- what was told, and what is left
use Rattle.std.proofs.Common.{◌≡◌, ◌++◌, length, take, vec_len}
use Rattle.pair_events.proofs.events.push_each.Given as goal

abbrev pub invariant-events : goal.invariant-events
invariant-events l = (l.out.items ++ l.rest ≡ l.fn.out.items ++ l.fn.events) × (take (vec_len l.fn.out) l.out.items ≡ l.fn.out.items)

abbrev pub decreases-events : goal.decreases-events
decreases-events l = length l.rest
