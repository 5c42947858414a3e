-- Each change is small.
use Rattle.play_rules.proofs.Counts.{may_add, counted_after}
use Rattle.play_rules.proofs.counting.count_laws.Goals as goal

pub returns-clause-after : goal.returns-clause-after
returns-clause-after c counts n w command is small =
    let law = c.exchange_law.ensures in counted_after law.added law.moved counts n w command is small

pub returns-clause-add : goal.returns-clause-add
returns-clause-add c n w is few small = may_add c.give_law.ensures.open n w is few small
