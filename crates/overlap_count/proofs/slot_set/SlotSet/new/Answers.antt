-- Without words there is no slot.
use Rattle.overlap_count.proofs.SetLemmas.{no_words, set_of_none}
use Rattle.overlap_count.proofs.slot_set.SlotSet.new.Goals as goal

pub invariant_of-result : goal.invariant_of-result
invariant_of-result c = set_of_none _ c.new.ensures.items

pub returns : goal.returns
returns c = no_words _ c.new.ensures.items
