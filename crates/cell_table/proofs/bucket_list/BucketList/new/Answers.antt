-- No slot is listed.
use Rattle.cell_table.proofs.ListedLemmas.{lists_none}
use Rattle.cell_table.proofs.bucket_list.BucketList.new.Goals as goal

pub returns : goal.returns
returns c = lists_none c.new.result.items c.new-2.result.items c.new-2.ensures.items
