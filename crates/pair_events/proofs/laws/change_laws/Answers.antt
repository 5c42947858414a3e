-- STAY is told of the present pairs that didn't begin.
use Rattle.pair_events.proofs.ToldOf.{told_is, changes_are, none_missing}
use Rattle.pair_events.proofs.laws.change_laws.Goals as goal

pub returns-clause-told : goal.returns-clause-told
returns-clause-told c before now r = told_is before now r

pub returns-clause-changes : goal.returns-clause-changes
returns-clause-changes c before now = changes_are before now

pub returns-clause-none : goal.returns-clause-none
returns-clause-none c pairs = none_missing pairs
