-- The slot is linked behind the node of its bucket, and its level has one slot more.
use Rattle.std.proofs.Common.{◌≡◌, arith, sym, ◌∙◌, ap, subst, ◌<◌, false}
use Rattle.std.specs.FinMap.{insert, contains_key}
use Rattle.std.proofs.lemmas.List.{get_or_read}
use Rattle.cell_table.specs.declared.TheConstants.{BUCKETS}
use Rattle.slot_lists.specs.SlotMapLaws.{map_put}
use Rattle.cell_table.proofs.RingLemmas.{put_inside}
use Rattle.cell_table.proofs.KeptLemmas.{kept_put, count_few, absent_is}
use Rattle.cell_table.proofs.table.CellTable.put.Goals as goal

pub overflow_add-index_mut : goal.overflow_add-index_mut
overflow_add-index_mut c =
    let s = c.self.inside in
    let r = get_or_read s.levels.items c.args.key.level c.index_mut-2.result.now
    (omega (arith, c.self.invariant.levels_len, c.requires.level)) c.index_mut-2.ensures.value 0 in
    let n = count_few s.keys.items s.next.items s.prev.items s.levels.items c.args.key.level c.self.invariant (omega (arith, c.requires.level)) in
    omega (arith, r, n)

pub link-requires-clause-inside : goal.link-requires-clause-inside
link-requires-clause-inside c =
    let s = c.self.inside in
    let b = c.bucket_of.result in
    put_inside s.keys.items s.next.items s.prev.items b (c.self.invariant.rings b c.bucket_of.ensures.bound) c.self.invariant.keys_len c.bucket_of.ensures.bound

pub invariant_of-self : goal.invariant_of-self
invariant_of-self c =
    let s = c.self.inside in
    let r = get_or_read s.levels.items c.args.key.level c.index_mut-2.result.now
    (omega (arith, c.self.invariant.levels_len, c.requires.level)) c.index_mut-2.ensures.value 0 in
    let absent = absent_is s.keys.items c.args.slot (subst (λ m. contains_key m c.args.slot ≡ false) (sym c.self.view_is) c.requires.absent) in
    let v = c.bucket_of.ensures.value in
    let bl = subst (λ b. b < BUCKETS) v c.bucket_of.ensures.bound in
    let k = kept_put s.keys.items s.next.items s.prev.items s.levels.items c.args.slot c.args.key c.self.invariant c.requires.small
    (omega (arith, c.requires.level)) bl absent in
    rw (c.link.ensures.next, c.link.ensures.prev, v, r) k

pub returns : goal.returns
returns c =
    let s = c.self.inside in
    map_put s.keys.items c.args.slot c.args.key (omega (arith, c.self.invariant.keys_len, c.requires.small))
    ∙ ap (λ m. insert m c.args.slot c.args.key) c.self.view_is
