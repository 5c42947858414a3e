-- A list without tallies has no count.
use Rattle.overlap_count.specs.SlotCounts.{digit, blank}
use Rattle.overlap_count.proofs.SpreadLemmas.{spread_none}
use Rattle.overlap_count.proofs.slot_counts.SlotCounts.clear.Goals as goal

pub returns : goal.returns
returns c = spread_none digit blank _ c.clear.ensures.items
