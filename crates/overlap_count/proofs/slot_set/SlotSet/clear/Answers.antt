-- Without words there is no slot.
use Rattle.overlap_count.proofs.SetLemmas.{no_words, set_of_none}
use Rattle.overlap_count.proofs.slot_set.SlotSet.clear.Goals as goal

pub invariant_of-self : goal.invariant_of-self
invariant_of-self c = set_of_none _ c.clear.ensures.items

pub returns : goal.returns
returns c = no_words _ c.clear.ensures.items
