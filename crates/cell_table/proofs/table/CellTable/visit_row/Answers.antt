-- The rings of the row are the slots of its buckets.
use Rattle.std.proofs.Common.{◌≡◌, subst, w32, to_z, of_z, arith}
use Rattle.std.proofs.lemmas.Int.{ints}
use Rattle.std.proofs.lemmas.Result.{on_ok_weaker}
use Rattle.cell_table.specs.Cells.{VisitsRow}
use Rattle.cell_table.specs.Kept.{Rings}
use Rattle.cell_table.proofs.EachLemmas.{row_visited}
use Rattle.cell_table.proofs.KeptLemmas.{bucket_below}
use Rattle.cell_table.proofs.table.CellTable.visit_row.Goals as goal

pub returns-else-is_err-clause-ok : goal.returns-else-is_err-clause-ok
returns-else-is_err-clause-ok c =
    let s = c.self.inside in
    let key = c.args.key.now in
    let old = c.args.out.now.items in
    let new = c.push_row-pushed.new.out.items in
    let is : to_z w32 (of_z w32 c.args.end) ≡ c.args.end = grind (arith, ints, c.ranges.end.sfits) in
    on_ok_weaker c.push_row-pushed.result
    (λ h. subst (λ m. VisitsRow m key c.args.end old new) c.self.view_is
    (row_visited s.keys.items s.next.items s.prev.items s.levels.items old new key c.args.end c.self.invariant bucket_below
    (subst (λ l. Rings l key c.args.end old new) c.deref.ensures.value (subst (λ z. Rings c.deref.result.now key z old new) is h))))
    c.push_row-pushed.ensures.ok
