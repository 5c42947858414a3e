-- Each clause is a lemma on tables.
use Rattle.live_table.proofs.FreeSlots.{all_live, full_of_boxes}
use Rattle.live_table.proofs.laws.give_law.Goals as goal

pub returns-clause-open : goal.returns-clause-open
returns-clause-open c = all_live

pub returns-clause-full : goal.returns-clause-full
returns-clause-full c = full_of_boxes
