-- What the bucket has of this key, sorted, is what the map has.
use Rattle.std.proofs.Common.{◌+◌, ◌++◌, arith, ap, ◌∙◌, get_or}
use Rattle.fixed_box.specs.declared.TheConstants.{SLOTS}
use Rattle.cell_table.specs.Cells.{bucket_of, slots_in}
use Rattle.cell_table.specs.Kept.{picked, walk}
use Rattle.cell_table.proofs.EachLemmas.{each_is}
use Rattle.cell_table.proofs.KeptLemmas.{bucket_below}
use Rattle.cell_table.proofs.table.CellTable.each_in.Goals as goal

pub returns-clause-ok : goal.returns-clause-ok
returns-clause-ok c =
    let s = c.self.inside in
    let key = c.args.key.now in
    let slots = picked key c.deref.result.now (walk c.deref-2.result.now SLOTS (get_or c.deref-2.result.now (SLOTS + bucket_of key) 0)) in
    each_is s.keys.items s.next.items s.prev.items s.levels.items c.args.out.now.items c.push_cell.new.out.items c.sort_from.new.out.items
    c.len-before.result key slots c.self.invariant (bucket_below key)
    (ap (λ l. picked key l (walk c.deref-2.result.now SLOTS (get_or c.deref-2.result.now (SLOTS + bucket_of key) 0))) c.deref.ensures.value
    ∙ ap (λ l. picked key s.keys.items (walk l SLOTS (get_or l (SLOTS + bucket_of key) 0))) c.deref-2.ensures.value)
    (omega (arith, c.len-before.ensures, c.args.out.now.ok.0)) c.in_ok-push_cell.ensures.ok
    c.sort_from.ensures.kept c.sort_from.ensures.moved c.sort_from.ensures.sorted
    ∙ ap (λ m. c.args.out.now.items ++ slots_in m key) c.self.view_is
