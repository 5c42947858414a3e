-- The slot leaves its ring, and its level has one slot less.
use Rattle.std.proofs.Common.{◌<◌, arith, sym, ◌∙◌, ap, is_some}
use Rattle.std.specs.FinMap.{remove}
use Rattle.std.proofs.lemmas.Bool.{false≢true}
use Rattle.std.proofs.lemmas.List.{get_or_read}
use Rattle.cell_table.specs.declared.TheConstants.{LEVELS}
use Rattle.slot_lists.specs.SlotMapLaws.{map_take}
use Rattle.cell_table.proofs.KeptLemmas.{kept_take, present_within, present_some, present, bucket_below}
use Rattle.cell_table.proofs.table.CellTable.take.Goals as goal

pub index-requires : goal.index-requires
index-requires c = omega (arith, c.self.inside.keys.ok.0, present_within c.self.inside.keys.items c.args.self.now c.args.slot c.self.view_is c.requires)

pub returns-in_default : goal.returns-in_default
returns-in_default c =
    absurd
    (false≢true
    (ap is_some (sym c.in_default.is)
    ∙ present_some c.self.inside.keys.items c.args.self.now c.args.slot c.index.result.now c.self.view_is c.requires c.index.ensures))

pub index_mut-requires : goal.index_mut-requires
index_mut-requires c = omega (arith, c.self.inside.keys.ok.0, present_within c.self.inside.keys.items c.args.self.now c.args.slot c.self.view_is c.requires)

pub index_mut-requires-2 : goal.index_mut-requires-2
index_mut-requires-2 c =
    let p = present _ _ _ _ c.args.self.now c.args.slot c.index.result.now c.in-Some.key c.self.invariant c.self.view_is c.requires c.index.ensures
    c.in-Some.is in
    omega (arith, p.low, c.self.invariant.levels_len, c.self.inside.levels.ok.0)

pub overflow_sub-index_mut : goal.overflow_sub-index_mut
overflow_sub-index_mut c =
    let s = c.self.inside in
    let p = present _ _ _ _ c.args.self.now c.args.slot c.index.result.now c.in-Some.key c.self.invariant c.self.view_is c.requires c.index.ensures
    c.in-Some.is in
    let low : c.in-Some.key.level < LEVELS = p.low in
    let read =
    get_or_read s.levels.items c.in-Some.key.level c.index_mut-2.result.now (omega (arith, c.self.invariant.levels_len)) c.index_mut-2.ensures.value 0 in
    omega (arith, read, p.some)

pub unlink-requires-clause-slot : goal.unlink-requires-clause-slot
unlink-requires-clause-slot c =
    (present _ _ _ _ c.args.self.now c.args.slot c.index.result.now c.in-Some.key c.self.invariant c.self.view_is c.requires c.index.ensures c.in-Some.is).small

pub unlink-requires-clause-before : goal.unlink-requires-clause-before
unlink-requires-clause-before c =
    (present _ _ _ _ c.args.self.now c.args.slot c.index.result.now c.in-Some.key c.self.invariant c.self.view_is c.requires c.index.ensures
    c.in-Some.is).beside.before

pub unlink-requires-clause-after : goal.unlink-requires-clause-after
unlink-requires-clause-after c =
    (present _ _ _ _ c.args.self.now c.args.slot c.index.result.now c.in-Some.key c.self.invariant c.self.view_is c.requires c.index.ensures
    c.in-Some.is).beside.after

pub invariant_of-self : goal.invariant_of-self
invariant_of-self c =
    let s = c.self.inside in
    let p = present _ _ _ _ c.args.self.now c.args.slot c.index.result.now c.in-Some.key c.self.invariant c.self.view_is c.requires c.index.ensures
    c.in-Some.is in
    let low : c.in-Some.key.level < LEVELS = p.low in
    let read =
    get_or_read s.levels.items c.in-Some.key.level c.index_mut-2.result.now (omega (arith, c.self.invariant.levels_len)) c.index_mut-2.ensures.value 0 in
    rw (c.unlink.ensures.next, c.unlink.ensures.prev, read)
    (kept_take s.keys.items s.next.items s.prev.items s.levels.items c.args.slot c.in-Some.key c.self.invariant p.small (bucket_below c.in-Some.key) p.here)

pub returns : goal.returns
returns c =
    let keys = c.self.inside.keys.items in
    map_take keys c.args.slot (present_within keys c.args.self.now c.args.slot c.self.view_is c.requires) ∙ ap (λ m. remove m c.args.slot) c.self.view_is
