-- the box at the place of its slot, where the slot stands there, is what the map has
use Rattle.std.proofs.Common.{◌<◌, length, ap, ◌∙◌, arith}
use Rattle.std.proofs.lemmas.List.{get_or_read}
use Rattle.std.specs.Ordering.{nat_cmp}
use Rattle.std.specs.FinMap.{FinMap, get}
use Rattle.fixed_box.specs.Bounds.{Bounds}
use Rattle.broad_index.proofs.PlainEntries.{held_nowhere, held_there, placed}
use Rattle.broad_index.proofs.slot_entries.Entries.box_of.Goals.{else-at-len-via-then-at-len+else-index-slot, else-at-len-via-else-at-len}
use Rattle.broad_index.proofs.slot_entries.Entries.box_of.Goals as goal

pub returns-then-index-slot : goal.returns-then-index-slot
returns-then-index-slot c =
    let slots = c.self.inside.slots.items in
    let boxes = c.self.inside.boxes.boxes in
    let p = placed slots boxes c.self.invariant c.args.self.now c.args.slot c.place-at.result c.self.view_is c.place-at.ensures in
    let within : c.place-at.result < length slots = omega (arith, c.if-at-len.true, c.len.ensures) in
    held_there slots boxes c.self.invariant c.args.slot c.place-at.result p c.index.result.now c.box_at.result within c.index.ensures c.box_at.ensures
    c.if-index-slot.true
    ∙ ap (λ (m : FinMap nat_cmp Bounds). get m c.args.slot) c.self.view_is

pub returns-else-at-len : goal.returns-else-at-len
returns-else-at-len c =
    let slots = c.self.inside.slots.items in
    let boxes = c.self.inside.boxes.boxes in
    let at = c.place-at.result in
    let p = placed slots boxes c.self.invariant c.args.self.now c.args.slot at c.self.view_is c.place-at.ensures in
    held_nowhere slots boxes c.self.invariant c.args.slot at p (λ l same. elim c.else-at-len.branch [
      | else-at-len-via-then-at-len+else-index-slot w ↦ w.if-index-slot.false (get_or_read slots at w.index.result.now l w.index.ensures 0 ∙ same)
      | else-at-len-via-else-at-len w ↦ let out : at < length slots → ⊥ = λ l. omega (arith, l, w.if-at-len.false, c.len.ensures) in out l
    ])
    ∙ ap (λ (m : FinMap nat_cmp Bounds). get m c.args.slot) c.self.view_is
