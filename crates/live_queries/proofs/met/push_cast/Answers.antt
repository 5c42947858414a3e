-- The index has found each box that the cast meets.
use Rattle.live_queries.proofs.FoundSlots.{cast_listed}
use Rattle.live_queries.proofs.met.push_cast.Goals as goal

pub push_met-requires-clause-met : goal.push_met-requires-clause-met
push_met-requires-clause-met c =
    cast_listed c.args.table.now c.args.cast.now c.args.slots.now c.requires.table c.cast_law.ensures.some c.requires.found
