-- The index has found each box that the ray meets.
use Rattle.live_queries.proofs.FoundSlots.{entered_listed}
use Rattle.live_queries.proofs.met.push_entered.Goals as goal

pub push_met-requires-clause-met : goal.push_met-requires-clause-met
push_met-requires-clause-met c = entered_listed c.args.table.now c.args.ray.now c.args.slots.now c.requires.table c.requires.found
