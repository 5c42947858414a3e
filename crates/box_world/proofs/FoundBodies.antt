-- The box of a handle in the map of a table's boxes, and how few exchanges a change has.
use Rattle.std.proofs.Common.{◌≡◌, ℕ, ◌*◌, ◌<◌, ◌≤◌, true, false, cond, nat_lt, List, [], ◌∷◌, length}
use Rattle.std.proofs.Common.{Some, None, is_some, option_map, refl, sym, ap, subst, ◌∙◌, arith}
use Rattle.std.specs.List.{list_all}
use Rattle.std.specs.Cmp.{first_so, second_so, nat_cmp_is}
use Rattle.std.specs.FinMap.{FinMap, get, entries, get-entries, find}
use Rattle.std.specs.Ordering.{nat_cmp, is_eq, eq_by_cmp}
use Rattle.std.specs.declared.cmp.Ordering.TheVariants.{Equal, Greater}
use Rattle.std.proofs.lemmas.Bool.{eqb-true}
use Rattle.fixed_box.specs.Bounds.{Bounds}
use Rattle.fixed_box.specs.declared.TheConstants.{SLOTS}
use Rattle.live_table.specs.declared.handle.Handle.{Handle}
use Rattle.live_table.specs.declared.live.Live.{Live}
use Rattle.live_table.specs.Bodies.{bodies_of, slots_with_bodies, body_of}
use Rattle.live_table.specs.Entries.{slot_of, has, entry_at, rises}
use Rattle.live_table.specs.Table.{Table, IsTable}
use Rattle.broad_index.specs.Exchanges.{passed_by_add, passed_by_shift, passed_from_above, passed_from}
use Rattle.fixed_box.proofs.Numbers.{lt_of}
use Rattle.box_world.proofs.Counted.{few_bodies}
use Rattle.box_world.proofs.Stale.{none_passed}

-- what is known of the exchanges of one change
abbrev pub FewAdded : Type 0
FewAdded = (bodies : FinMap nat_cmp Bounds) (slot : ℕ) (body : Bounds) → length (entries bodies) ≤ SLOTS → passed_by_add bodies slot body ≤ 12 * SLOTS

abbrev pub FewShifted : Type 0
FewShifted = (bodies : FinMap nat_cmp Bounds) (slot : ℕ) (body : Bounds) → length (entries bodies) ≤ SLOTS
    → passed_by_shift bodies slot body ≤ 12 * SLOTS

same_slot : (h : Handle) (entry : Live) → has h entry ≡ true → slot_of entry ≡ h.slot
same_slot h entry is = eqb-true (slot_of entry) h.slot (first_so _ _ is)

-- a slot below those of some boxes is below that of a handle which one of them has
slot_above : (h : Handle) (es : List Live) (live : Live) (s : ℕ) → entry_at h es ≡ Some live
    → list_all (λ o. nat_lt s (slot_of o)) es ≡ true → s < h.slot
slot_above h [] live s here up = absurd (cc)
slot_above h (o ∷ es) live s here up =
    elim (has h o) as (λ t. has h o ≡ t → cond t (Some o) (entry_at h es) ≡ Some live → s < h.slot) [
      | true ↦ λ is _. let lt = lt_of s (slot_of o) (first_so _ _ up) in let same = same_slot h o is in omega (arith, lt, same)
      | false ↦ λ _ later. slot_above h es live s later (second_so _ _ up)
    ] refl here

-- the box of a handle is found under its slot
found : (h : Handle) (es : List Live) (live : Live) → rises es ≡ true → entry_at h es ≡ Some live
    → find nat_cmp h.slot (slots_with_bodies es) ≡ Some live.body
found h [] live r here = absurd (cc)
found h (o ∷ es) live r here =
    let rest = find nat_cmp h.slot (slots_with_bodies es) in
    elim (has h o) as (λ t. has h o ≡ t → cond t (Some o) (entry_at h es) ≡ Some live
    → cond (eq_by_cmp nat_cmp h.slot (slot_of o)) (Some o.body) rest ≡ Some live.body) [
      | true ↦ λ is this.
          ap (λ b. cond b (Some o.body) rest) (ap is_eq (sym (nat_cmp_is h.slot (slot_of o) Equal (sym (same_slot h o is)))))
          ∙ ap (option_map (λ entry. entry.body)) this
      | false ↦ λ _ later.
          let lower = slot_above h es live (slot_of o) later (first_so _ _ r) in
          ap (λ b. cond b (Some o.body) rest) (ap is_eq (sym (nat_cmp_is h.slot (slot_of o) Greater lower))) ∙ found h es live (second_so _ _ r) later
    ] refl here

-- the map has the box of a live handle
pub found_body : (t : Table) (h : Handle) → IsTable t → is_some (entry_at h t.entries) ≡ true → get (bodies_of t.entries) h.slot ≡ body_of h t.entries
found_body t h is here =
    elim (entry_at h t.entries) as (λ o. entry_at h t.entries ≡ o → is_some o ≡ true
    → get (bodies_of t.entries) h.slot ≡ option_map (λ entry. entry.body) o) [
      | None ↦ λ _ none. absurd (cc)
      | Some live ↦ λ at _. get-entries (bodies_of t.entries) h.slot ∙ ap (find nat_cmp h.slot) is.mapped ∙ found h t.entries live is.rising at
    ] refl here

pub add_passes_few : FewAdded → (t : Table) (slot : ℕ) (body : Bounds) → IsTable t
    → passed_from_above (slots_with_bodies t.entries) slot body ≤ 12 * SLOTS
add_passes_few law t slot body is =
    subst (λ es. passed_from_above es slot body ≤ 12 * SLOTS) is.mapped (law (bodies_of t.entries) slot body (few_bodies (bodies_of t.entries) t refl is))

pub move_passes_few : FewShifted → (t : Table) (h : Handle) (body : Bounds) → IsTable t
    → passed_from (body_of h t.entries) (slots_with_bodies t.entries) h.slot body ≤ 12 * SLOTS
move_passes_few law t h body is =
    let boxes = bodies_of t.entries in
    elim (is_some (entry_at h t.entries)) as (λ b. is_some (entry_at h t.entries) ≡ b
    → passed_from (body_of h t.entries) (slots_with_bodies t.entries) h.slot body ≤ 12 * SLOTS) [
      | false ↦ λ stale. subst (λ n. n ≤ 12 * SLOTS) (sym (none_passed (entry_at h t.entries) (slots_with_bodies t.entries) h.slot body stale)) (omega arith)
      | true ↦ λ here.
          subst (λ n. n ≤ 12 * SLOTS)
          (ap (λ o. passed_from o (entries boxes) h.slot body) (found_body t h is here)
          ∙ ap (λ es. passed_from (body_of h t.entries) es h.slot body) is.mapped)
          (law boxes h.slot body (few_bodies boxes t refl is))
    ] refl
