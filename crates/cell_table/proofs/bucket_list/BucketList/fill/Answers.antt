-- What was listed before want of memory is gone.
use Rattle.cell_table.proofs.ListedLemmas.{lists_none, on_err_of}
use Rattle.cell_table.proofs.bucket_list.BucketList.fill.Goals as goal

pub returns-then-is_err-clause-err : goal.returns-then-is_err-clause-err
returns-then-is_err-clause-err c =
    on_err_of c.list_slots-filled.result
    (lists_none c.clear.new.self.items c.clear-then-is_err.new.self.items c.clear-then-is_err.ensures.items)
