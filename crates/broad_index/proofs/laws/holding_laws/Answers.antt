-- each clause is a lemma
use Rattle.broad_index.proofs.AmongEntries.{held_found, held_reach}
use Rattle.broad_index.proofs.Counted.{held_once}
use Rattle.broad_index.proofs.Holding.{holds_none, holds_moved, holds_pushed, holds_dropped, holds_apart}
use Rattle.broad_index.proofs.laws.holding_laws.Goals as goal

pub returns-clause-found : goal.returns-clause-found
returns-clause-found c = held_found

pub returns-clause-reach : goal.returns-clause-reach
returns-clause-reach c = held_reach

pub returns-clause-none : goal.returns-clause-none
returns-clause-none c = holds_none

pub returns-clause-moved : goal.returns-clause-moved
returns-clause-moved c = holds_moved

pub returns-clause-pushed : goal.returns-clause-pushed
returns-clause-pushed c = holds_pushed

pub returns-clause-dropped : goal.returns-clause-dropped
returns-clause-dropped c = holds_dropped

pub returns-clause-apart : goal.returns-clause-apart
returns-clause-apart c = holds_apart

pub returns-clause-once : goal.returns-clause-once
returns-clause-once c = held_once
