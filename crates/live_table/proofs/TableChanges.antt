-- A table comes of each change of a table, and what a change makes of the map of the boxes.
use Rattle.std.proofs.Common.{◌≡◌, ◌≢◌, ℕ, suc, ◌+◌, ◌<◌, ◌≤◌, ◌&&◌, Bool, true, false, cond, not, List, [], ◌∷◌, Some, None, is_some, length, refl, sym, ap}
use Rattle.std.proofs.Common.{ltb, ◌∙◌, subst, arith, eqb, lt-ltb, ltb-true, slice_index, get_or-set_other, length-set, filter}
use Rattle.std.specs.FinMap.{insert, remove, contains_key}
use Rattle.std.specs.List.{All, list_all}
use Rattle.std.proofs.lemmas.Bool.{and_parts, and_from}
use Rattle.std.proofs.lemmas.Bool.Decides.{nat_tests}
use Rattle.std.proofs.lemmas.List.Elements.{All-cons}
use Rattle.fixed_box.specs.Bounds.{Bounds, meets}
use Rattle.fixed_box.specs.Space.{space}
use Rattle.fixed_box.specs.declared.TheConstants.{SLOTS}
use Rattle.live_table.specs.declared.group.Group.{Group}
use Rattle.live_table.specs.declared.handle.Handle.{Handle}
use Rattle.live_table.specs.declared.live.Live.{Live}
use Rattle.live_table.specs.declared.masks.Masks.{Masks}
use Rattle.live_table.specs.Bodies.{bodies_of}
use Rattle.live_table.specs.Entries.{slot_of, has, live_at, entry_at, entered, changed, without, rises}
use Rattle.live_table.specs.Table.{Table, IsTable, IsVacated, after_set_box, after_set_masks, after_set_group, after_ungive, after_put_back}
use Rattle.live_table.proofs.BodyMaps.{entries-bodies_of, same_slot, indexed_present, remove-bodies_of, insert-with_body, bodies_of-with_masks, bodies_of-with_group}
use Rattle.live_table.proofs.BodyMaps.{vacated_slots, insert-put_back}
use Rattle.live_table.proofs.EntryLemmas.{has_found}
use Rattle.live_table.proofs.FreeSlots.{from_zero, len_between}
use Rattle.live_table.proofs.UndoLemmas.{all_found, free_without}

-- the box that lives under a handle
living : (h : Handle) (es : List Live) → is_some (entry_at h es) ≡ true → (e : Live) × (entry_at h es ≡ Some e)
living h es lives =
    elim (entry_at h es) as (λ o. is_some o ≡ true → (e : Live) × (o ≡ Some e)) [
      | None ↦ λ none. absurd (cc)
      | Some e ↦ λ _. (e, refl)
    ] lives

pub slot_small : (t : Table) (h : Handle) → IsTable t → is_some (entry_at h t.entries) ≡ true → h.slot < SLOTS
slot_small t h is lives =
    let found = living h t.entries lives in
    let slot : slot_of found.0 ≡ h.slot = same_slot h found.0 (has_found h found.0 t.entries found.1) in
    let low : slot_of found.0 < SLOTS = all_found (λ e. slot_of e < SLOTS) h t.entries found.0 is.small found.1 in
    omega (arith, slot, low)

pub slot_present : (t : Table) (h : Handle) → IsTable t → is_some (entry_at h t.entries) ≡ true → contains_key (bodies_of t.entries) h.slot ≡ true
slot_present t h is lives = indexed_present h t.entries is.rising lives

-- some entries left out
all_rest : (P : Live → Type 0) (e : Live) (es : List Live) → All P (e ∷ es) → All P es
all_rest P e es all k d lt = all (suc k) d (omega (arith, lt))

all_left : (P : Live → Type 0) (p : Live → Bool) (es : List Live) → All P es → All P (filter p es)
all_left P p [] all = λ k d lt. absurd (omega (arith, lt))
all_left P p (e ∷ es) all =
    let rest : All P (filter p es) = all_left P p es (all_rest P e es all) in
    elim (p e) as (λ b. All P (cond b (e ∷ filter p es) (filter p es))) [
      | true ↦ All-cons P e (filter p es) (all 0 e (omega arith)) rest
      | false ↦ rest
    ]

list_left : (q p : Live → Bool) (es : List Live) → list_all q es ≡ true → list_all q (filter p es) ≡ true
list_left q p [] all = refl
list_left q p (e ∷ es) all =
    let both = and_parts (q e) (list_all q es) all in
    let rest : list_all q (filter p es) ≡ true = list_left q p es both.1 in
    elim (p e) as (λ b. list_all q (cond b (e ∷ filter p es) (filter p es)) ≡ true) [ true ↦ and_from _ _ both.0 rest | false ↦ rest ]

rises_left : (p : Live → Bool) (es : List Live) → rises es ≡ true → rises (filter p es) ≡ true
rises_left p [] r = refl
rises_left p (e ∷ es) r =
    let both : (list_all (λ other. ltb (slot_of e) (slot_of other)) es ≡ true) × (rises es ≡ true) = and_parts _ _ r in
    let rest : rises (filter p es) ≡ true = rises_left p es both.1 in
    elim (p e) as (λ b. rises (cond b (e ∷ filter p es) (filter p es)) ≡ true) [
      | true ↦ and_from _ _ (list_left (λ other. ltb (slot_of e) (slot_of other)) p es both.0) rest
      | false ↦ rest
    ]

len_left : (p : Live → Bool) (es : List Live) → length (filter p es) ≤ length es
len_left p [] = omega arith
len_left p (e ∷ es) = elim (p e) as (λ b. length (cond b (e ∷ filter p es) (filter p es)) ≤ length (e ∷ es)) [
  | true ↦ omega (arith, len_left p es)
  | false ↦ omega (arith, len_left p es)
]

differ : (a b : ℕ) → not (eqb a b) ≡ true → a ≢ b
differ a b h same = let is : eqb a b ≡ true = grind (arith, nat_tests) in cc

apart_all : (slot : ℕ) (es : List Live) → list_all (λ o. not (eqb (slot_of o) slot)) es ≡ true → All (λ e. slot_of e ≢ slot) es
apart_all slot [] free = λ k d lt. absurd (omega (arith, lt))
apart_all slot (e ∷ es) free =
    let both = and_parts (not (eqb (slot_of e) slot)) (list_all (λ o. not (eqb (slot_of o) slot)) es) free in
    All-cons (λ e. slot_of e ≢ slot) e es (differ (slot_of e) slot both.0) (apart_all slot es both.1)

-- those that are left have other slots
others : (t : Table) (h : Handle) → IsTable t → is_some (entry_at h t.entries) ≡ true → All (λ e. slot_of e ≢ h.slot) (without h t.entries)
others t h is lives =
    let found = living h t.entries lives in
    let slot : slot_of found.0 ≡ h.slot = same_slot h found.0 (has_found h found.0 t.entries found.1) in
    let left = without h t.entries in
    let free : live_at (slot_of found.0) left ≡ None = free_without h t.entries found.0 is.rising found.1 in
    subst (λ s. All (λ e. slot_of e ≢ s) left) slot (apart_all (slot_of found.0) left (vacated_slots (slot_of found.0) left free))

pub ungiven_table : (t : Table) (h : Handle) → IsTable t → is_some (entry_at h t.entries) ≡ true → IsTable (after_ungive t h)
ungiven_table t h is lives =
    let p : Live → Bool = λ e. not (has h e) in
    let rising : rises (without h t.entries) ≡ true = rises_left p t.entries is.rising in record {
      rising = rising;
      slots = length-set t.gives h.slot _ ∙ is.slots;
      small = all_left (λ e. slot_of e < SLOTS) p t.entries is.small;
      few = omega (arith, len_left p t.entries, is.few);
      newest = λ k d lt.
          let own = all_left (λ e. e.handle.generation + 1 ≡ slice_index t.gives (slot_of e)) p t.entries is.newest k d lt in
          let other = others t h is lives k d lt in
          own ∙ sym (get_or-set_other t.gives h.slot _ _ 0 other);
      in_space = all_left (λ e. meets space e.body ≡ true) p t.entries is.in_space;
      mapped = entries-bodies_of (without h t.entries) rising;
    }

pub ungiven_map : (t : Table) (h : Handle) → IsTable t → is_some (entry_at h t.entries) ≡ true
    → bodies_of (after_ungive t h).entries ≡ remove (bodies_of t.entries) h.slot
ungiven_map t h is lives = sym (remove-bodies_of h t.entries is.rising lives)

-- one entry changed, under its handle
module _ (h : Handle) (change : Live → Live) (kept : (e : Live) → (change e).handle ≡ e.handle) where
  all_changed : (P : Live → Type 0) → ((e : Live) → P e → P (change e)) → (es : List Live) → All P es → All P (changed h change es)
  all_changed P so [] all = λ k d lt. absurd (omega (arith, lt))
  all_changed P so (e ∷ es) all =
      let own : P e = all 0 e (omega arith) in
      All-cons P _ (changed h change es) (elim (has h e) as (λ b. P (cond b (change e) e)) [ true ↦ so e own | false ↦ own ])
      (all_changed P so es (all_rest P e es all))

  slot-changed : (e : Live) → slot_of (cond (has h e) (change e) e) ≡ slot_of e
  slot-changed e = elim (has h e) as (λ b. slot_of (cond b (change e) e) ≡ slot_of e) [ true ↦ ap (λ k. k.slot) (kept e) | false ↦ refl ]

  list_changed : (q : ℕ → Bool) (es : List Live) → list_all (λ e. q (slot_of e)) (changed h change es) ≡ list_all (λ e. q (slot_of e)) es
  list_changed q [] = refl
  list_changed q (e ∷ es) = rw (slot-changed e) (ap (λ b. q (slot_of e) && b) (list_changed q es))

  rises_changed : (es : List Live) → rises (changed h change es) ≡ rises es
  rises_changed [] = refl
  rises_changed (e ∷ es) =
      rw (slot-changed e, list_changed (λ s. ltb (slot_of e) s) es) (ap (λ b. list_all (λ o. ltb (slot_of e) (slot_of o)) es && b) (rises_changed es))

  len_changed : (es : List Live) → length (changed h change es) ≡ length es
  len_changed [] = refl
  len_changed (e ∷ es) = ap suc (len_changed es)

  changed_table : (t : Table) → IsTable t → ((e : Live) → meets space e.body ≡ true → meets space (change e).body ≡ true)
      → IsTable (record t { entries = changed h change t.entries })
  changed_table t is so =
      let rising : rises (changed h change t.entries) ≡ true = rises_changed t.entries ∙ is.rising in record {
        rising = rising;
        slots = is.slots;
        small = all_changed (λ e. slot_of e < SLOTS) (λ e low. omega (arith, low, ap (λ k. k.slot) (kept e))) t.entries is.small;
        few = omega (arith, len_changed t.entries, is.few);
        newest = all_changed (λ e. e.handle.generation + 1 ≡ slice_index t.gives (slot_of e))
            (λ e own. subst (λ k. k.generation + 1 ≡ slice_index t.gives k.slot) (sym (kept e)) own) t.entries is.newest;
        in_space = all_changed (λ e. meets space e.body ≡ true) so t.entries is.in_space;
        mapped = entries-bodies_of (changed h change t.entries) rising;
      }

pub moved_table : (t : Table) (h : Handle) (body : Bounds) → IsTable t → meets space body ≡ true → IsTable (after_set_box t h body)
moved_table t h body is within = changed_table h (λ e. record e { body = body }) (λ e. refl) t is (λ e _. within)

pub moved_map : (t : Table) (h : Handle) (body : Bounds) → IsTable t → is_some (entry_at h t.entries) ≡ true
    → bodies_of (after_set_box t h body).entries ≡ insert (bodies_of t.entries) h.slot body
moved_map t h body is lives =
    sym (insert-with_body h body t.entries is.rising (rises_changed h (λ e. record e { body = body }) (λ e. refl) t.entries ∙ is.rising) lives)

pub masked_table : (t : Table) (h : Handle) (masks : Masks) → IsTable t → IsTable (after_set_masks t h masks)
masked_table t h masks is = changed_table h (λ e. record e { masks = masks }) (λ e. refl) t is (λ e within. within)

pub masked_map : (t : Table) (h : Handle) (masks : Masks) → bodies_of (after_set_masks t h masks).entries ≡ bodies_of t.entries
masked_map t h masks = bodies_of-with_masks h masks t.entries

pub grouped_table : (t : Table) (h : Handle) (group : Group) → IsTable t → IsTable (after_set_group t h group)
grouped_table t h group is = changed_table h (λ e. record e { group = group }) (λ e. refl) t is (λ e within. within)

pub grouped_map : (t : Table) (h : Handle) (group : Group) → bodies_of (after_set_group t h group).entries ≡ bodies_of t.entries
grouped_map t h group = bodies_of-with_group h group t.entries

-- one entry more, in a slot that none has
all_entered : (P : Live → Type 0) (new : Live) (es : List Live) → P new → All P es → All P (entered new es)
all_entered P new [] own all = All-cons P new [] own all
all_entered P new (e ∷ es) own all =
    elim (ltb (slot_of e) (slot_of new)) as (λ b. All P (cond b (e ∷ entered new es) (new ∷ e ∷ es))) [
      | true ↦ All-cons P e (entered new es) (all 0 e (omega arith)) (all_entered P new es own (all_rest P e es all))
      | false ↦ All-cons P new (e ∷ es) own all
    ]

list_entered : (q : Live → Bool) (new : Live) (es : List Live) → q new ≡ true → list_all q es ≡ true → list_all q (entered new es) ≡ true
list_entered q new [] own all = and_from _ _ own refl
list_entered q new (e ∷ es) own all =
    let both = and_parts (q e) (list_all q es) all in
    elim (ltb (slot_of e) (slot_of new)) as (λ b. list_all q (cond b (e ∷ entered new es) (new ∷ e ∷ es)) ≡ true) [
      | true ↦ and_from _ _ both.0 (list_entered q new es own both.1)
      | false ↦ and_from _ _ own all
    ]

list_later : (a b : ℕ) (es : List Live) → a < b → list_all (λ o. ltb b (slot_of o)) es ≡ true → list_all (λ o. ltb a (slot_of o)) es ≡ true
list_later a b [] lt all = refl
list_later a b (e ∷ es) lt all =
    let both = and_parts (ltb b (slot_of e)) (list_all (λ o. ltb b (slot_of o)) es) all in
    and_from _ _ (lt-ltb a (slot_of e) (omega (arith, lt, ltb-true b (slot_of e) both.0))) (list_later a b es lt both.1)

rises_entered : (new : Live) (es : List Live) → rises es ≡ true → list_all (λ o. not (eqb (slot_of o) (slot_of new))) es ≡ true
    → rises (entered new es) ≡ true
rises_entered new [] r free = refl
rises_entered new (e ∷ es) r free =
    let both : (list_all (λ other. ltb (slot_of e) (slot_of other)) es ≡ true) × (rises es ≡ true) = and_parts _ _ r in
    let apart = and_parts (not (eqb (slot_of e) (slot_of new))) (list_all (λ o. not (eqb (slot_of o) (slot_of new))) es) free in
    elim (ltb (slot_of e) (slot_of new)) as (λ b. ltb (slot_of e) (slot_of new) ≡ b → rises (cond b (e ∷ entered new es) (new ∷ e ∷ es)) ≡ true) [
      | true ↦ λ lt. and_from _ _ (list_entered (λ other. ltb (slot_of e) (slot_of other)) new es lt both.0) (rises_entered new es both.1 apart.1)
      | false ↦ λ ge.
          let lt : slot_of new < slot_of e = below (slot_of e) (slot_of new) ge apart.0 in
          and_from _ _ (and_from _ _ (lt-ltb (slot_of new) (slot_of e) lt) (list_later (slot_of new) (slot_of e) es lt both.0)) r
    ] refl
  where
    below : (a b : ℕ) → ltb a b ≡ false → not (eqb a b) ≡ true → b < a
    below a b ge ne = grind (arith, nat_tests)

pub put_back_table : (t : Table) (live : Live) → IsTable t → IsVacated live t → meets space live.body ≡ true → IsTable (after_put_back t live)
put_back_table t live is vacated within =
    let rising : rises (entered live t.entries) ≡ true = rises_entered live t.entries is.rising (vacated_slots (slot_of live) t.entries vacated.free) in
    let small : All (λ e. slot_of e < SLOTS) (entered live t.entries) = all_entered (λ e. slot_of e < SLOTS) live t.entries vacated.small is.small in
    record {
      rising = rising;
      slots = is.slots;
      small = small;
      few = omega (arith, len_between 0 SLOTS (entered live t.entries) rising (from_zero (entered live t.entries)) small);
      newest = all_entered (λ e. e.handle.generation + 1 ≡ slice_index t.gives (slot_of e)) live t.entries (sym vacated.given) is.newest;
      in_space = all_entered (λ e. meets space e.body ≡ true) live t.entries within is.in_space;
      mapped = entries-bodies_of (entered live t.entries) rising;
    }

pub put_back_map : (t : Table) (live : Live) → IsTable t → IsVacated live t
    → bodies_of (after_put_back t live).entries ≡ insert (bodies_of t.entries) (slot_of live) live.body
put_back_map t live is vacated =
    sym (insert-put_back t.entries live is.rising (rises_entered live t.entries is.rising (vacated_slots (slot_of live) t.entries vacated.free)) vacated.free)
