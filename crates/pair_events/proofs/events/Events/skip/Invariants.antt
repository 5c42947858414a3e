-- what is passed later is what is left to pass
use Rattle.std.proofs.Common.{◌≡◌, drop}
use Rattle.pair_events.proofs.events.Events.skip.Given as goal

abbrev pub invariant-passed : goal.invariant-passed
invariant-passed l = drop l.left l.self ≡ drop l.count l.fn.self

abbrev pub decreases-passed : goal.decreases-passed
decreases-passed l = l.left
