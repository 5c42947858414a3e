-- Each clause is a lemma on tables.
use Rattle.live_table.proofs.GoneHandles.{gone_taken, gone_kept, gone_still, none_past}
use Rattle.live_table.proofs.laws.gone_law.Goals as goal

pub returns-clause-taken : goal.returns-clause-taken
returns-clause-taken c = gone_taken

pub returns-clause-kept : goal.returns-clause-kept
returns-clause-kept c = gone_kept

pub returns-clause-gone : goal.returns-clause-gone
returns-clause-gone c = gone_still

pub returns-clause-past : goal.returns-clause-past
returns-clause-past c = none_past
