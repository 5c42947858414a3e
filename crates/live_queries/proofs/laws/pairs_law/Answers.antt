-- The pairs of a table rise, since its entries do, and are few, since its entries are.
use Rattle.live_queries.proofs.Counts.{pairs_countable}
use Rattle.live_queries.proofs.InOrder.{pairs_in_order}
use Rattle.live_queries.proofs.PairMembers.{from_pairs, to_pairs}
use Rattle.live_queries.proofs.laws.pairs_law.Goals as goal

pub returns-clause-members : goal.returns-clause-members
returns-clause-members c t pair is = (from_pairs t.entries pair is.rising, to_pairs t.entries pair is.rising)

pub returns-clause-order : goal.returns-clause-order
returns-clause-order c t is = pairs_in_order t.entries is.rising

pub returns-clause-few : goal.returns-clause-few
returns-clause-few c t is = pairs_countable t.entries is.few
