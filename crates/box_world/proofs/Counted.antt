-- Serves proofs alone: exchanges that a change counts, where they are counted at all.
use Rattle.std.proofs.Common.{◌≡◌, ℕ, ◌+◌, ◌*◌, ◌^◌, ◌<◌, ◌≤◌, Bool, true, false, length, refl, sym, ap, ◌∙◌, subst, arith}
use Rattle.std.proofs.lemmas.List.{length-map}
use Rattle.std.specs.Ordering.{nat_cmp}
use Rattle.std.specs.FinMap.{FinMap, entries, get}
use Rattle.fixed_box.specs.Bounds.{Bounds}
use Rattle.fixed_box.specs.declared.TheConstants.{SLOTS}
use Rattle.live_table.specs.declared.live.Live.{Live}
use Rattle.live_table.specs.declared.handle.Handle.{Handle}
use Rattle.live_table.specs.Bodies.{bodies_of, slots_with_bodies, body_of}
use Rattle.broad_index.specs.Exchanges.{passed_from, passed_by_shift}
use Rattle.live_table.specs.Entries.{slot_of}
use Rattle.live_table.specs.Table.{Table, IsTable}
use Rattle.box_world.specs.declared.TheConstants.{MOST_EXCHANGES}
use Rattle.box_world.specs.World.{counted}

-- as many entries as live boxes
pub few_bodies : (bodies : FinMap nat_cmp Bounds) (t : Table) → bodies ≡ bodies_of t.entries → IsTable t → length (entries bodies) ≤ SLOTS
few_bodies bodies t e is =
    let at : Live → (ℕ × Bounds) = λ entry. (slot_of entry, entry.body) in
    subst (λ n. n ≤ SLOTS) (sym (ap (λ b. length (entries b)) e ∙ ap length is.mapped ∙ length-map t.entries at)) is.few

pub counted_on : (counts : Bool) (earlier old new number : ℕ) → (counts ≡ true → new ≡ old + number) → (counts ≡ false → old ≡ 0)
    → (counts ≡ false → new ≡ 0) → earlier + new ≡ earlier + old + counted counts number
counted_on true earlier old new number on before after = let e = on refl in omega (arith, e)
counted_on false earlier old new number on before after = let e = before refl in let f = after refl in omega (arith, e, f)

pub counted_few : (counts : Bool) (number : ℕ) → number ≤ 12 * SLOTS → counted counts number ≤ 12 * SLOTS
counted_few true number few = few
counted_few false number few = omega arith

-- a change of few exchanges, before which they weren't at their end
pub still_fits : (total old number : ℕ) → total ≡ old + number → old ≤ MOST_EXCHANGES → number ≤ 12 * SLOTS → total < 2 ^ 64
still_fits total old number is below few = omega (arith, is, below, few)

-- a move's exchanges, by the map of the boxes and by the table
pub move_passes : (bodies : FinMap nat_cmp Bounds) (t : Table) (handle : Handle) (body : Bounds) → bodies ≡ bodies_of t.entries → IsTable t
    → get (bodies_of t.entries) handle.slot ≡ body_of handle t.entries
    → passed_by_shift bodies handle.slot body ≡ passed_from (body_of handle t.entries) (slots_with_bodies t.entries) handle.slot body
move_passes bodies t handle body boxes is former =
    ap (λ b. passed_from (get b handle.slot) (entries b) handle.slot body) boxes
    ∙ ap (λ es. passed_from (get (bodies_of t.entries) handle.slot) es handle.slot body) is.mapped
    ∙ ap (λ o. passed_from o (slots_with_bodies t.entries) handle.slot body) former
