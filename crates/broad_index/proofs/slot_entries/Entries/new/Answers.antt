-- No slots and no boxes are the empty map.
use Rattle.broad_index.proofs.SortedEntries.{from_sorted-nil}
use Rattle.broad_index.proofs.slot_entries.Entries.new.Goals as goal

pub returns : goal.returns
returns c = rw c.new.ensures.items from_sorted-nil
