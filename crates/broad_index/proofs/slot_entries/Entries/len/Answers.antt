-- the map has as many slots as the list
use Rattle.std.proofs.Common.{◌≡◌, ap, sym, ◌∙◌, length, arith}
use Rattle.std.specs.Ordering.{nat_cmp}
use Rattle.std.specs.FinMap.{FinMap, len}
use Rattle.fixed_box.specs.Bounds.{Bounds}
use Rattle.broad_index.proofs.PlainEntries.{few_slots, slots_counted}
use Rattle.broad_index.proofs.slot_entries.Entries.len.Goals as goal

pub overflow_cast-result : goal.overflow_cast-result
overflow_cast-result c = omega (arith, c.len.ensures, few_slots c.self.inside.slots.items c.self.inside.boxes.boxes c.self.invariant)

pub returns : goal.returns
returns c =
    let slots = c.self.inside.slots.items in
    let count : c.len.result ≡ length slots = omega (arith, c.len.ensures) in
    count ∙ sym (slots_counted slots c.self.inside.boxes.boxes c.self.invariant) ∙ ap (λ (m : FinMap nat_cmp Bounds). len m) c.self.view_is
