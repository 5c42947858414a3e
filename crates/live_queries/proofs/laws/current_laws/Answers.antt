-- A pair of a table is that of its slots, a move changes neither handles nor masks nor groups, and a box that comes has a slot of its own.
use Rattle.live_queries.proofs.Current.{pairs_current, moved_current, entered_current}
use Rattle.live_queries.proofs.laws.current_laws.Goals as goal

pub returns-clause-pairs : goal.returns-clause-pairs
returns-clause-pairs c t is = pairs_current t is

pub returns-clause-moved : goal.returns-clause-moved
returns-clause-moved c es pairs handle body are = moved_current es pairs handle body are

pub returns-clause-entered : goal.returns-clause-entered
returns-clause-entered c es pairs live none are = entered_current es pairs live none are
