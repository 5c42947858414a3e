-- Undoing what a call made of a table gives the table back.
use Rattle.std.proofs.Common.{◌≡◌, ◌≢◌, ℕ, suc, ◌+◌, ◌-◌, ◌<◌, ◌≤◌, ◌&&◌, true, false, cond, not, List, [], ◌∷◌, Some, None, is_some, length, eqb, ltb, refl}
use Rattle.std.proofs.Common.{sym, ap, ◌∙◌, arith, ne_eqb, lt-ltb, subst, eqb-true, eq-eqb, get_or, get_or-set_same, set, slice_index}
use Rattle.std.specs.List.{All, list_all}
use Rattle.std.proofs.lemmas.Bool.{and_parts, and_from}
use Rattle.std.proofs.lemmas.List.{set-set, set-get_or}
use Rattle.fixed_box.specs.Bounds.{Bounds}
use Rattle.fixed_box.specs.declared.TheConstants.{SLOTS}
use Rattle.live_table.specs.declared.group.Group.{Group}
use Rattle.live_table.specs.declared.handle.Handle.{Handle}
use Rattle.live_table.specs.declared.live.Live.{Live}
use Rattle.live_table.specs.declared.masks.Masks.{Masks}
use Rattle.live_table.specs.Entries.{slot_of, has, live_at, entry_at, entered, changed, without, rises}
use Rattle.live_table.specs.Table.{Table, IsTable, IsVacated, least_free, IsLeastFree, raised, lowered, next_handle, after_give, after_set_box}
use Rattle.live_table.specs.Table.{after_set_masks, after_set_group, after_take, after_ungive, after_put_back}
use Rattle.live_table.proofs.EntryLemmas.{Above, above_from, above_so, entered_first, live_above, has_not, changed_above, without_above}

-- no entry has the slot
abbrev Free : ℕ → List Live → Type 0
Free slot es = All (λ e. slot_of e ≢ slot) es

free_rest : (slot : ℕ) (e : Live) (es : List Live) → Free slot (e ∷ es) → Free slot es
free_rest slot e es free k d lt = free (suc k) d (omega arith)

named : (h : Handle) (e : Live) → e.handle ≡ h → has h e ≡ true
named h e is = and_from _ _ (eq-eqb _ _ (ap (λ k. k.slot) is)) (eq-eqb _ _ (ap (λ k. k.generation) is))

-- a new entry, which is left out again
without_free : (h : Handle) (es : List Live) → Free h.slot es → without h es ≡ es
without_free h [] free = refl
without_free h (e ∷ es) free =
    rw (has_not h e (free 0 e (omega arith))) (ap (λ xs. e ∷ xs) (without_free h es (free_rest h.slot e es free)))

without-entered : (h : Handle) (new : Live) (es : List Live) → new.handle ≡ h → Free h.slot es → without h (entered new es) ≡ es
without-entered h new [] is free = rw (named h new is) refl
without-entered h new (e ∷ es) is free =
    elim (ltb (slot_of e) (slot_of new)) as (λ t. without h (cond t (e ∷ entered new es) (new ∷ e ∷ es)) ≡ e ∷ es) [
      | true ↦ rw (has_not h e (free 0 e (omega arith))) (ap (λ xs. e ∷ xs) (without-entered h new es is (free_rest h.slot e es free)))
      | false ↦ rw (named h new is) (without_free h (e ∷ es) free)
    ]

entry-entered : (h : Handle) (new : Live) (es : List Live) → new.handle ≡ h → Free h.slot es → is_some (entry_at h (entered new es)) ≡ true
entry-entered h new [] is free = rw (named h new is) refl
entry-entered h new (e ∷ es) is free =
    elim (ltb (slot_of e) (slot_of new)) as (λ t. is_some (entry_at h (cond t (e ∷ entered new es) (new ∷ e ∷ es))) ≡ true) [
      | true ↦ rw (has_not h e (free 0 e (omega arith))) (entry-entered h new es is (free_rest h.slot e es free))
      | false ↦ rw (named h new is) refl
    ]

lowered-raised : (gives : List ℕ) (slot : ℕ) → slot < length gives → lowered (raised gives slot) slot ≡ gives
lowered-raised gives slot lt =
    let at : get_or (raised gives slot) slot 0 - 1 ≡ get_or gives slot 0 = omega (arith, get_or-set_same gives slot (get_or gives slot 0 + 1) 0 lt) in
    ap (set (raised gives slot) slot) at ∙ set-set gives slot (get_or gives slot 0 + 1) (get_or gives slot 0) ∙ set-get_or gives slot 0

pub given_back : (t : Table) (body : Bounds) (masks : Masks) (group : Group) → IsTable t → IsLeastFree (least_free t) t
    → least_free t < SLOTS → after_ungive (after_give t body masks group) (next_handle t) ≡ t
given_back t body masks group is free small =
    let new : Live = record { handle = next_handle t; body = body; masks = masks; group = group } in
    let es : without (next_handle t) (entered new t.entries) ≡ t.entries = without-entered (next_handle t) new t.entries refl free.free in
    let gs : lowered (raised t.gives (least_free t)) (least_free t) ≡ t.gives =
    lowered-raised t.gives (least_free t) (omega (arith, is.slots, small)) in
    same es gs
  where
    same : {es fs : List Live} {gs hs : List ℕ} → es ≡ fs → gs ≡ hs
        → ◌≡◌ {A = Table} (record { entries = es; gives = gs }) (record { entries = fs; gives = hs })
    same {es} {fs} {gs} {hs} e g = ap (λ xs. record { entries = xs; gives = gs }) e ∙ ap (λ ns. record { entries = fs; gives = ns }) g

pub given_live : (t : Table) (body : Bounds) (masks : Masks) (group : Group) → IsLeastFree (least_free t) t
    → is_some (entry_at (next_handle t) (after_give t body masks group).entries) ≡ true
given_live t body masks group free =
    entry-entered (next_handle t) (record { handle = next_handle t; body = body; masks = masks; group = group }) t.entries refl free.free

-- an entry whose handle stays is changed, and changed back
module _ (h : Handle) (change back : Live → Live) (kept : (e : Live) → (change e).handle ≡ e.handle) where
  has-change : (e : Live) → has h (change e) ≡ has h e
  has-change e = ap (λ k. eqb k.slot h.slot && eqb k.generation h.generation) (kept e)

  pub live-changed : (es : List Live) → is_some (entry_at h (changed h change es)) ≡ is_some (entry_at h es)
  live-changed [] = refl
  live-changed (e ∷ es) =
      elim (has h e) as (λ t. has h e ≡ t → is_some (entry_at h (cond t (change e) e ∷ changed h change es)) ≡ is_some (cond t (Some e) (entry_at h es))) [
        | true ↦ λ is. rw (has-change e, is) refl
        | false ↦ λ is. rw is (live-changed es)
      ] refl

  pub changed_back : (es : List Live) (live : Live) → rises es ≡ true → entry_at h es ≡ Some live → back (change live) ≡ live
      → changed h back (changed h change es) ≡ es
  changed_back [] live r found is = refl
  changed_back (e ∷ es) live r found is =
      elim (has h e) as (λ t. has h e ≡ t → cond t (Some e) (entry_at h es) ≡ Some live
      → changed h back (cond t (change e) e ∷ changed h change es) ≡ e ∷ es) [
        | true ↦ λ own same.
            let p : (list_all (λ other. ltb (slot_of e) (slot_of other)) es ≡ true) × (rises es ≡ true) = and_parts _ _ r in
            let slot : slot_of e ≡ h.slot = eqb-true (slot_of e) h.slot (and_parts _ _ own).0 in
            let up : Above (h.slot + 1) es = above_from _ _ es (omega (arith, slot)) (above_so (slot_of e) es p.0) in
            let head : e ≡ live = cc in
            let left : changed h back (changed h change es) ≡ es = ap (changed h back) (changed_above h change es up) ∙ changed_above h back es up in
            rw (has-change e, own, left) (ap (λ x. x ∷ es) (ap (λ x. back (change x)) head ∙ is ∙ sym head))
        | false ↦ λ other rest.
            let p : (list_all (λ other. ltb (slot_of e) (slot_of other)) es ≡ true) × (rises es ≡ true) = and_parts _ _ r in
            rw other (ap (λ xs. e ∷ xs) (changed_back es live p.1 rest is))
      ] refl found

pub moved_back : (t : Table) (h : Handle) (body : Bounds) (live : Live) → IsTable t → entry_at h t.entries ≡ Some live
    → after_set_box (after_set_box t h body) h live.body ≡ t
moved_back t h body live is found =
    ap (λ es. record t { entries = es })
    (changed_back h (λ e. record e { body = body }) (λ e. record e { body = live.body }) (λ e. refl) t.entries live is.rising found refl)

pub masked_back : (t : Table) (h : Handle) (masks : Masks) (live : Live) → IsTable t → entry_at h t.entries ≡ Some live
    → after_set_masks (after_set_masks t h masks) h live.masks ≡ t
masked_back t h masks live is found =
    ap (λ es. record t { entries = es })
    (changed_back h (λ e. record e { masks = masks }) (λ e. record e { masks = live.masks }) (λ e. refl) t.entries live is.rising found refl)

pub grouped_back : (t : Table) (h : Handle) (group : Group) (live : Live) → IsTable t → entry_at h t.entries ≡ Some live
    → after_set_group (after_set_group t h group) h live.group ≡ t
grouped_back t h group live is found =
    ap (λ es. record t { entries = es })
    (changed_back h (λ e. record e { group = group }) (λ e. record e { group = live.group }) (λ e. refl) t.entries live is.rising found refl)

pub moved_live : (t : Table) (h : Handle) (body : Bounds) → is_some (entry_at h (after_set_box t h body).entries) ≡ is_some (entry_at h t.entries)
moved_live t h body = live-changed h (λ e. record e { body = body }) (λ e. e) (λ e. refl) t.entries

pub masked_live : (t : Table) (h : Handle) (masks : Masks) → is_some (entry_at h (after_set_masks t h masks).entries) ≡ is_some (entry_at h t.entries)
masked_live t h masks = live-changed h (λ e. record e { masks = masks }) (λ e. e) (λ e. refl) t.entries

pub grouped_live : (t : Table) (h : Handle) (group : Group) → is_some (entry_at h (after_set_group t h group).entries) ≡ is_some (entry_at h t.entries)
grouped_live t h group = live-changed h (λ e. record e { group = group }) (λ e. e) (λ e. refl) t.entries

-- what all entries meet, the one that is found meets
pub all_found : (P : Live → Type 0) (h : Handle) (es : List Live) (live : Live) → All P es → entry_at h es ≡ Some live → P live
all_found P h [] live all found = absurd (cc)
all_found P h (e ∷ es) live all found =
    elim (has h e) as (λ t. cond t (Some e) (entry_at h es) ≡ Some live → P live) [
      | true ↦ λ same. let is : e ≡ live = cc in subst P is (all 0 e (omega arith))
      | false ↦ λ rest. all_found P h es live (λ k d lt. all (suc k) d (omega arith)) rest
    ] found

-- an entry that is found above a slot has a higher one
found_above : (n : ℕ) (h : Handle) (es : List Live) (live : Live) → Above n es → entry_at h es ≡ Some live → n ≤ slot_of live
found_above n h [] live up found = absurd (cc)
found_above n h (e ∷ es) live up found =
    elim (has h e) as (λ t. cond t (Some e) (entry_at h es) ≡ Some live → n ≤ slot_of live) [
      | true ↦ λ same. let is : e ≡ live = cc in omega (arith, up.0, ap slot_of is)
      | false ↦ λ rest. found_above n h es live up.1 rest
    ] found

-- an entry that was left out is put in again
pub entered-without : (h : Handle) (es : List Live) (live : Live) → rises es ≡ true → entry_at h es ≡ Some live → entered live (without h es) ≡ es
entered-without h [] live r found = absurd (cc)
entered-without h (e ∷ es) live r found =
    let p : (list_all (λ other. ltb (slot_of e) (slot_of other)) es ≡ true) × (rises es ≡ true) = and_parts _ _ r in
    let later : Above (slot_of e + 1) es = above_so (slot_of e) es p.0 in
    elim (has h e) as (λ t. has h e ≡ t → cond t (Some e) (entry_at h es) ≡ Some live
    → entered live (cond (not t) (e ∷ without h es) (without h es)) ≡ e ∷ es) [
      | true ↦ λ own same.
          let slot : slot_of e ≡ h.slot = eqb-true (slot_of e) h.slot (and_parts _ _ own).0 in
          let head : e ≡ live = cc in
          ap (entered live) (without_above h es (above_from _ _ es (omega (arith, slot)) later))
          ∙ entered_first live es (above_from _ _ es (omega (arith, ap slot_of head)) later) ∙ ap (λ x. x ∷ es) (sym head)
      | false ↦ λ other rest.
          rw (lt-ltb (slot_of e) (slot_of live) (omega (arith, found_above _ h es live later rest))) (ap (λ xs. e ∷ xs) (entered-without h es live p.1 rest))
    ] refl found

pub free_without : (h : Handle) (es : List Live) (live : Live) → rises es ≡ true → entry_at h es ≡ Some live → live_at (slot_of live) (without h es) ≡ None
free_without h [] live r found = refl
free_without h (e ∷ es) live r found =
    let p : (list_all (λ other. ltb (slot_of e) (slot_of other)) es ≡ true) × (rises es ≡ true) = and_parts _ _ r in
    let later : Above (slot_of e + 1) es = above_so (slot_of e) es p.0 in
    elim (has h e) as (λ t. has h e ≡ t → cond t (Some e) (entry_at h es) ≡ Some live
    → live_at (slot_of live) (cond (not t) (e ∷ without h es) (without h es)) ≡ None) [
      | true ↦ λ own same.
          let slot : slot_of e ≡ h.slot = eqb-true (slot_of e) h.slot (and_parts _ _ own).0 in
          let head : e ≡ live = cc in
          ap (live_at (slot_of live)) (without_above h es (above_from _ _ es (omega (arith, slot)) later))
          ∙ live_above (slot_of live) es (above_from _ _ es (omega (arith, ap slot_of head)) later)
      | false ↦ λ other rest.
          rw (ne_eqb (slot_of e) (slot_of live) (λ same. omega (arith, same, found_above _ h es live later rest))) (free_without h es live p.1 rest)
    ] refl found

pub taken_back : (t : Table) (h : Handle) (live : Live) → IsTable t → entry_at h t.entries ≡ Some live → after_put_back (after_take t h) live ≡ t
taken_back t h live is found = ap (λ es. record t { entries = es }) (entered-without h t.entries live is.rising found)

pub taken_vacated : (t : Table) (h : Handle) (live : Live) → IsTable t → entry_at h t.entries ≡ Some live → IsVacated live (after_take t h)
taken_vacated t h live is found = record {
  free = free_without h t.entries live is.rising found;
  small = all_found (λ e. slot_of e < SLOTS) h t.entries live is.small found;
  given = sym (all_found (λ e. e.handle.generation + 1 ≡ slice_index t.gives (slot_of e)) h t.entries live is.newest found);
}
