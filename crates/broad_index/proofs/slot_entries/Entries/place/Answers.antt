-- Slots in order are parted by a slot, and their entries with them.
use Rattle.std.proofs.Common.{◌≡◌, ℕ, ◌≤◌, true, false, List, length, zip, nat_lt, ap, sym, subst, ◌∙◌, arith, rules}
use Rattle.std.specs.List.{AllWithin}
use Rattle.std.specs.FinMap.{entries}
use Rattle.broad_index.specs.Entries.{Placed}
use Rattle.std.specs.List.Sorted.{IsPartitionedBy}
use Rattle.std.proofs.lemmas.List.Sorted.{IsPartitionPoint-from_clause}
use Rattle.broad_index.proofs.PlainEntries.{entries_are, slots_parted, within_zip, zip_long}
use Rattle.broad_index.proofs.slot_entries.Entries.place.Goals as goal

pub returns : goal.returns
returns c =
    let slots = c.self.inside.slots.items in
    let boxes = c.self.inside.boxes.boxes in
    let is : entries c.args.self.now ≡ zip slots boxes = ap entries (sym c.self.view_is) ∙ entries_are slots boxes c.self.invariant in
    let at = c.partition_point.result in
    let below = λ (s : ℕ). nat_lt s c.args.slot in
    let long = zip_long slots boxes c.self.invariant in
    let parted : IsPartitionedBy below c.deref.result.now = rw c.deref.ensures.value (slots_parted slots boxes c.self.invariant c.args.slot) in
    let point = IsPartitionPoint-from_clause below _ _ c.partition_point.ensures.partitioned parted (λ a r q k. search rules) in
    let first = subst (λ (xs : List ℕ). AllWithin (λ s. below s ≡ true) xs 0 at) c.deref.ensures.value point.0 in
    let later = subst (λ (xs : List ℕ). AllWithin (λ s. below s ≡ false) xs at (length xs)) c.deref.ensures.value point.1 in
    let bound : at ≤ length slots = omega (arith, ap length c.deref.ensures.value, c.partition_point.ensures.bound) in
    let above = within_zip slots boxes c.self.invariant (λ s. below s ≡ false) at (length slots) (omega arith) later in
    let found : Placed (zip slots boxes) c.args.slot at =
    record {
      bound = omega (arith, long, bound);
      below = within_zip slots boxes c.self.invariant (λ s. below s ≡ true) 0 at bound first;
      above = subst (λ (n : ℕ). AllWithin (λ e. below e.0 ≡ false) (zip slots boxes) at n) (sym long) above;
    }
    in
    subst (λ es. Placed es c.args.slot at) (sym is) found
