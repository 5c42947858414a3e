-- The map of the live boxes, and what a change of them makes of it.
use Rattle.std.proofs.Common.{◌≡◌, ◌≢◌, ℕ, suc, ◌<◌, Bool, true, false, cond, not, T, ◌&&◌, List, [], ◌∷◌}
use Rattle.std.proofs.Common.{length, Some, None, is_some, option_map, refl, sym, ap, ◌∙◌, subst, arith, nat_eq, nat_lt}
use Rattle.std.specs.List.{list_all, All}
use Rattle.std.specs.Ordering.{nat_cmp, is_lt, is_eq, eq_by_cmp}
use Rattle.std.specs.Cmp.{first_so, second_so, eq_by_cmp_equiv, alike_right}
use Rattle.std.specs.Cmp.Derive.{both_true}
use Rattle.std.specs.FinMap.{get, entries, entries-insert, entries-from_sorted, from_sorted, is_sorted, insert, remove, find}
use Rattle.std.specs.FinMap.{put, contains_key, get-from_sorted, get-remove, same_entries_map}
use Rattle.std.specs.FinMap.{same_map, nat_cmp-IsAntisymmetric, empty, empty_of_len, len-entries}
use Rattle.std.specs.FinMap.Entries.{below_all, where_key, is_sorted-where_key, find-where_key}
use Rattle.std.proofs.lemmas.Bool.{eqb-true}
use Rattle.std.proofs.lemmas.Bool.Decides.{nat_tests}
use Rattle.std.proofs.lemmas.Cmp.{nat_cmp_total}
use Rattle.fixed_box.specs.Bounds.{Bounds}
use Rattle.live_table.specs.declared.handle.Handle.{Handle}
use Rattle.live_table.specs.declared.live.Live.{Live}
use Rattle.live_table.specs.declared.masks.Masks.{Masks}
use Rattle.live_table.specs.Entries.{slot_of, has, live_at, entry_at, entered, with_body, with_masks, with_group, without, rises}
use Rattle.live_table.specs.Bodies.{slots_with_bodies, bodies_of, body_of}
use Rattle.live_table.specs.declared.group.Group.{Group}
use Rattle.live_table.specs.Table.{Table, IsTable, IsVacated, IsLeastFree, next_handle, after_give, after_set_box, after_set_masks, after_set_group, after_put_back}
use Rattle.fixed_box.proofs.Bools.{cond_not, true_to}
use Rattle.fixed_box.proofs.Numbers.{less, equal, greater, lt_of}

abbrev above : ℕ → List Live → Bool
above slot es = list_all (λ o. nat_lt slot (slot_of o)) es

below_slots : (slot : ℕ) (es : List Live) → above slot es ≡ true → below_all nat_cmp slot (slots_with_bodies es) ≡ true
below_slots slot [] h = refl
below_slots slot (e ∷ es) h = both_true (ap is_lt (less slot (slot_of e) (lt_of slot (slot_of e) (first_so _ _ h)))) (below_slots slot es (second_so _ _ h))

slots_sorted : (es : List Live) → rises es ≡ true → is_sorted nat_cmp (slots_with_bodies es) ≡ true
slots_sorted [] h = refl
slots_sorted (e ∷ es) h = both_true (below_slots (slot_of e) es (first_so _ _ h)) (slots_sorted es (second_so _ _ h))

sorted : (es : List Live) → rises es ≡ true → T (is_sorted nat_cmp (slots_with_bodies es))
sorted es h = true_to _ (slots_sorted es h)

pub entries-bodies_of : (es : List Live) → rises es ≡ true → entries (bodies_of es) ≡ slots_with_bodies es
entries-bodies_of es h = entries-from_sorted nat_cmp (slots_with_bodies es) (sorted es h)

pub bodies_of-nil : bodies_of [] ≡ empty {K = ℕ} {X = Bounds} {R = nat_cmp}
bodies_of-nil = empty_of_len _ (len-entries _ ∙ ap length (entries-from_sorted {X = Bounds} nat_cmp [] tt))

-- a map of entries with one put in
put_indexed : (es fs : List Live) (slot : ℕ) (body : Bounds) → rises es ≡ true → rises fs ≡ true
    → put nat_cmp slot body (slots_with_bodies es) ≡ slots_with_bodies fs → insert (bodies_of es) slot body ≡ bodies_of fs
put_indexed es fs slot body r s e =
    same_entries_map _ _ (entries-insert nat_cmp_total (bodies_of es) slot body ∙ ap (put nat_cmp slot body) (entries-bodies_of es r) ∙ e
    ∙ sym (entries-bodies_of fs s))

-- a new box
put_entered : (es : List Live) (new : Live) → list_all (λ o. not (nat_eq (slot_of o) (slot_of new))) es ≡ true
    → put nat_cmp (slot_of new) new.body (slots_with_bodies es) ≡ slots_with_bodies (entered new es)
put_entered [] new free = refl
put_entered (e ∷ es) new free =
    elim (nat_lt (slot_of e) (slot_of new)) as (λ t. nat_lt (slot_of e) (slot_of new) ≡ t
    → put nat_cmp (slot_of new) new.body (slots_with_bodies (e ∷ es)) ≡ slots_with_bodies (cond t (e ∷ entered new es) (new ∷ e ∷ es))) [
      | true ↦ λ lt. rw (greater (slot_of new) (slot_of e) (lt_of _ _ lt)) (ap (λ xs. (slot_of e, e.body) ∷ xs) (put_entered es new (second_so _ _ free)))
      | false ↦ λ ge. rw (less (slot_of new) (slot_of e) (apart (slot_of e) (slot_of new) ge (first_so _ _ free))) refl
    ] refl
  where
    apart : (x k : ℕ) → nat_lt x k ≡ false → not (nat_eq x k) ≡ true → k < x
    apart x k ge ne = grind (arith, nat_tests)

free_slots : (es : List Live) (slot : ℕ) → All (λ o. slot_of o ≢ slot) es → list_all (λ o. not (nat_eq (slot_of o) slot)) es ≡ true
free_slots [] slot free = refl
free_slots (e ∷ es) slot free = both_true (differs (slot_of e) slot (free 0 e (omega arith))) (free_slots es slot (λ k d h. free (suc k) d (omega arith)))
  where
    differs : (x y : ℕ) → x ≢ y → not (nat_eq x y) ≡ true
    differs x y h = grind (arith, nat_tests)

insert-entered : (es : List Live) (new : Live) → rises es ≡ true → rises (entered new es) ≡ true → All (λ o. slot_of o ≢ slot_of new) es
    → insert (bodies_of es) (slot_of new) new.body ≡ bodies_of (entered new es)
insert-entered es new r s free = put_indexed es (entered new es) (slot_of new) new.body r s (put_entered es new (free_slots es (slot_of new) free))

absent_slot : (es : List Live) (slot : ℕ) → list_all (λ o. not (nat_eq (slot_of o) slot)) es ≡ true → find nat_cmp slot (slots_with_bodies es) ≡ None
absent_slot [] slot free = refl
absent_slot (e ∷ es) slot free = rw (apart slot (slot_of e) (first_so _ _ free)) (absent_slot es slot (second_so _ _ free))
  where
    differ : (k x : ℕ) → not (nat_eq x k) ≡ true → k ≢ x
    differ k x h e = let same : nat_eq x k ≡ true = grind (arith, nat_tests) in cc

    apart : (k x : ℕ) → not (nat_eq x k) ≡ true → eq_by_cmp nat_cmp k x ≡ false
    apart k x h = elim (nat_lt k x) as (λ t. nat_lt k x ≡ t → eq_by_cmp nat_cmp k x ≡ false) [
      | true ↦ λ lt. ap is_eq (less k x (lt_of k x lt))
      | false ↦ λ ge. let gt : x < k = grind (arith, nat_tests, differ k x h) in ap is_eq (greater k x gt)
    ] refl

indexed_absent : (es : List Live) (slot : ℕ) → rises es ≡ true → All (λ o. slot_of o ≢ slot) es → contains_key (bodies_of es) slot ≡ false
indexed_absent es slot r free =
    ap is_some (get-from_sorted nat_cmp (slots_with_bodies es) slot (sorted es r) ∙ absent_slot es slot (free_slots es slot free))

-- a live box's handle
abbrev lives : Handle → List Live → Bool
lives h es = is_some (entry_at h es)

pub same_slot : (h : Handle) (e : Live) → has h e ≡ true → slot_of e ≡ h.slot
same_slot h e is = eqb-true (slot_of e) h.slot (first_so _ _ is)

lives_above : (h : Handle) (es : List Live) (s : ℕ) → lives h es ≡ true → above s es ≡ true → s < h.slot
lives_above h [] s some up = cc
lives_above h (e ∷ es) s some up =
    elim (has h e) as (λ t. has h e ≡ t → is_some (cond t (Some e) (entry_at h es)) ≡ true → s < h.slot) [
      | true ↦ λ is _. let lt : s < slot_of e = lt_of s (slot_of e) (first_so _ _ up) in let same : slot_of e ≡ h.slot = same_slot h e is in omega arith
      | false ↦ λ _ later. lives_above h es s later (second_so _ _ up)
    ] refl some

not_above : (h : Handle) (e : Live) → nat_lt h.slot (slot_of e) ≡ true → has h e ≡ false
not_above h e lt = let apart : nat_eq (slot_of e) h.slot ≡ false = grind (arith, nat_tests) in rw apart refl

-- an index has the box of a live handle
found_body : (h : Handle) (es : List Live) → rises es ≡ true → lives h es ≡ true → get (bodies_of es) h.slot ≡ body_of h es
found_body h es r some = get-from_sorted nat_cmp (slots_with_bodies es) h.slot (sorted es r) ∙ found es r some
  where
    found : (es : List Live) → rises es ≡ true → lives h es ≡ true → find nat_cmp h.slot (slots_with_bodies es) ≡ body_of h es
    found [] r some = cc
    found (e ∷ es) r some =
        elim (has h e) as (λ t. has h e ≡ t → is_some (cond t (Some e) (entry_at h es)) ≡ true
        → find nat_cmp h.slot (slots_with_bodies (e ∷ es)) ≡ option_map (λ entry. entry.body) (cond t (Some e) (entry_at h es))) [
          | true ↦ λ is _. rw (equal h.slot (slot_of e) (sym (same_slot h e is))) refl
          | false ↦ λ _ later. rw (greater h.slot (slot_of e) (lives_above h es (slot_of e) later (first_so _ _ r))) (found es (second_so _ _ r) later)
        ] refl some

-- boxes above a slot stay as they are
body_above : (h : Handle) (body : Bounds) (es : List Live) → above h.slot es ≡ true → slots_with_bodies (with_body h body es) ≡ slots_with_bodies es
body_above h body [] up = refl
body_above h body (e ∷ es) up = rw (not_above h e (first_so _ _ up)) (ap (λ xs. (slot_of e, e.body) ∷ xs) (body_above h body es (second_so _ _ up)))

put_body : (h : Handle) (body : Bounds) (es : List Live) → rises es ≡ true → lives h es ≡ true
    → put nat_cmp h.slot body (slots_with_bodies es) ≡ slots_with_bodies (with_body h body es)
put_body h body [] r some = cc
put_body h body (e ∷ es) r some =
    elim (has h e) as (λ t. has h e ≡ t → is_some (cond t (Some e) (entry_at h es)) ≡ true
    → put nat_cmp h.slot body (slots_with_bodies (e ∷ es)) ≡ (slot_of (cond t (record e { body = body }) e), (cond t (record e { body = body }) e).body) ∷
    slots_with_bodies (with_body h body es)) [
      | true ↦ λ is _.
          let same : slot_of e ≡ h.slot = same_slot h e is in
          rw (equal h.slot (slot_of e) (sym same))
          (ap (λ xs. (slot_of e, body) ∷ xs) (sym (body_above h body es (subst (λ s. above s es ≡ true) same (first_so _ _ r)))))
      | false ↦ λ _ later.
          rw (greater h.slot (slot_of e) (lives_above h es (slot_of e) later (first_so _ _ r)))
          (ap (λ xs. (slot_of e, e.body) ∷ xs) (put_body h body es (second_so _ _ r) later))
    ] refl some

pub insert-with_body : (h : Handle) (body : Bounds) (es : List Live) → rises es ≡ true → rises (with_body h body es) ≡ true → lives h es ≡ true
    → insert (bodies_of es) h.slot body ≡ bodies_of (with_body h body es)
insert-with_body h body es r s some = put_indexed es (with_body h body es) h.slot body r s (put_body h body es r some)

found_slot : (h : Handle) (es : List Live) → rises es ≡ true → lives h es ≡ true → is_some (find nat_cmp h.slot (slots_with_bodies es)) ≡ true
found_slot h [] r some = cc
found_slot h (e ∷ es) r some =
    elim (has h e) as (λ t. has h e ≡ t → is_some (cond t (Some e) (entry_at h es)) ≡ true
    → is_some (find nat_cmp h.slot (slots_with_bodies (e ∷ es))) ≡ true) [
      | true ↦ λ is _. rw (equal h.slot (slot_of e) (sym (same_slot h e is))) refl
      | false ↦ λ _ later. rw (greater h.slot (slot_of e) (lives_above h es (slot_of e) later (first_so _ _ r))) (found_slot h es (second_so _ _ r) later)
    ] refl some

pub indexed_present : (h : Handle) (es : List Live) → rises es ≡ true → lives h es ≡ true → contains_key (bodies_of es) h.slot ≡ true
indexed_present h es r some = ap is_some (get-from_sorted nat_cmp (slots_with_bodies es) h.slot (sorted es r)) ∙ found_slot h es r some

-- other masks change no box
pub bodies_of-with_masks : (h : Handle) (masks : Masks) (es : List Live) → bodies_of (with_masks h masks es) ≡ bodies_of es
bodies_of-with_masks h masks es = ap (λ xs. from_sorted {R = nat_cmp} xs) (same es)
  where
    same : (es : List Live) → slots_with_bodies (with_masks h masks es) ≡ slots_with_bodies es
    same [] = refl
    same (e ∷ es) = elim (has h e) as (λ t. (slot_of (cond t (record e { masks = masks }) e), (cond t (record e { masks = masks }) e).body) ∷
        slots_with_bodies (with_masks h masks es) ≡ (slot_of e, e.body) ∷ slots_with_bodies es) [
          | true ↦ ap (λ xs. (slot_of e, e.body) ∷ xs) (same es)
          | false ↦ ap (λ xs. (slot_of e, e.body) ∷ xs) (same es)
        ]

-- another owner or fixed mark changes no box
pub bodies_of-with_group : (h : Handle) (group : Group) (es : List Live) → bodies_of (with_group h group es) ≡ bodies_of es
bodies_of-with_group h group es = ap (λ xs. from_sorted {R = nat_cmp} xs) (same es)
  where
    same : (es : List Live) → slots_with_bodies (with_group h group es) ≡ slots_with_bodies es
    same [] = refl
    same (e ∷ es) = elim (has h e) as (λ t. (slot_of (cond t (record e { group = group }) e), (cond t (record e { group = group }) e).body) ∷
        slots_with_bodies (with_group h group es) ≡ (slot_of e, e.body) ∷ slots_with_bodies es) [
          | true ↦ ap (λ xs. (slot_of e, e.body) ∷ xs) (same es)
          | false ↦ ap (λ xs. (slot_of e, e.body) ∷ xs) (same es)
        ]

-- a box that is gone
abbrev other_than : ℕ → ℕ → Bool
other_than k x = not (eq_by_cmp nat_cmp k x)

left_above : (h : Handle) (es : List Live) → above h.slot es ≡ true
    → where_key nat_cmp (other_than h.slot) (slots_with_bodies es) ≡ slots_with_bodies (without h es)
left_above h [] up = refl
left_above h (e ∷ es) up =
    rw (not_above h e (first_so _ _ up), less h.slot (slot_of e) (lt_of _ _ (first_so _ _ up)))
    (ap (λ xs. (slot_of e, e.body) ∷ xs) (left_above h es (second_so _ _ up)))

left_out : (h : Handle) (es : List Live) → rises es ≡ true → lives h es ≡ true
    → where_key nat_cmp (other_than h.slot) (slots_with_bodies es) ≡ slots_with_bodies (without h es)
left_out h [] r some = cc
left_out h (e ∷ es) r some =
    elim (has h e) as (λ t. has h e ≡ t → is_some (cond t (Some e) (entry_at h es)) ≡ true
    → where_key nat_cmp (other_than h.slot) (slots_with_bodies (e ∷ es)) ≡ slots_with_bodies (cond (not t) (e ∷ without h es) (without h es))) [
      | true ↦ λ is _.
          let same : slot_of e ≡ h.slot = same_slot h e is in
          rw (equal h.slot (slot_of e) (sym same)) (left_above h es (subst (λ s. above s es ≡ true) same (first_so _ _ r)))
      | false ↦ λ _ later.
          rw (greater h.slot (slot_of e) (lives_above h es (slot_of e) later (first_so _ _ r)))
          (ap (λ xs. (slot_of e, e.body) ∷ xs) (left_out h es (second_so _ _ r) later))
    ] refl some

pub remove-bodies_of : (h : Handle) (es : List Live) → rises es ≡ true → lives h es ≡ true → remove (bodies_of es) h.slot ≡ bodies_of (without h es)
remove-bodies_of h es r some =
    let xs = slots_with_bodies es in
    let left : T (is_sorted nat_cmp (where_key nat_cmp (other_than h.slot) xs)) = is_sorted-where_key nat_cmp (other_than h.slot) xs (sorted es r) in
    same_map nat_cmp_total nat_cmp-IsAntisymmetric _ _ (λ q.
    get-remove nat_cmp_total (bodies_of es) h.slot q ∙ ap (cond (eq_by_cmp nat_cmp q h.slot) None) (get-from_sorted nat_cmp xs q (sorted es r))
    ∙ ap (λ b. cond b None (find nat_cmp q xs)) ((eq_by_cmp_equiv nat_cmp_total).symm q h.slot) ∙ sym (cond_not (eq_by_cmp nat_cmp h.slot q) _ _)
    ∙ sym (get-from_sorted nat_cmp (where_key nat_cmp (other_than h.slot) xs) q left
    ∙ find-where_key nat_cmp (other_than h.slot) q (λ x t. ap (λ o. not (is_eq o)) (sym (alike_right nat_cmp_total q x h.slot t))) xs))
    ∙ ap (λ ys. from_sorted {R = nat_cmp} ys) (left_out h es r some)

-- no entry has the slot that no live box has
pub vacated_slots : (slot : ℕ) (es : List Live) → live_at slot es ≡ None → list_all (λ o. not (nat_eq (slot_of o) slot)) es ≡ true
vacated_slots slot [] free = refl
vacated_slots slot (e ∷ es) free =
    elim (nat_eq (slot_of e) slot) as (λ t. cond t (Some e) (live_at slot es) ≡ None → not t && list_all (λ o. not (nat_eq (slot_of o) slot)) es ≡ true) [
      | true ↦ λ some. absurd (cc)
      | false ↦ λ none. vacated_slots slot es none
    ] free

-- a box that is put back
pub insert-put_back : (es : List Live) (live : Live) → rises es ≡ true → rises (entered live es) ≡ true → live_at (slot_of live) es ≡ None
    → insert (bodies_of es) (slot_of live) live.body ≡ bodies_of (entered live es)
insert-put_back es live r s free = put_indexed es (entered live es) (slot_of live) live.body r s (put_entered es live (vacated_slots (slot_of live) es free))

indexed_vacated : (es : List Live) (slot : ℕ) → rises es ≡ true → live_at slot es ≡ None → contains_key (bodies_of es) slot ≡ false
indexed_vacated es slot r free =
    ap is_some (get-from_sorted nat_cmp (slots_with_bodies es) slot (sorted es r) ∙ absent_slot es slot (vacated_slots slot es free))

-- the same of tables, as the clauses of the calls say it
pub given_absent : (t : Table) (slot : ℕ) → IsTable t → IsLeastFree slot t → contains_key (bodies_of t.entries) slot ≡ false
given_absent t slot is free = indexed_absent t.entries slot is.rising free.free

pub given_bodies : (t u : Table) (handle : Handle) (body : Bounds) (masks : Masks) (group : Group) → IsTable t → IsTable u → IsLeastFree handle.slot t
    → handle ≡ next_handle t → u ≡ after_give t body masks group → bodies_of u.entries ≡ insert (bodies_of t.entries) handle.slot body
given_bodies t u handle body masks group is_t is_u free next given =
    let new : Live = record { handle = next_handle t; body = body; masks = masks; group = group } in
    let rising : rises (entered new t.entries) ≡ true = subst (λ v. rises v.entries ≡ true) given is_u.rising in
    ap (λ v. bodies_of v.entries) given
    ∙ sym (insert-entered t.entries new is_t.rising rising (subst (λ k. All (λ o. slot_of o ≢ k.slot) t.entries) next free.free))
    ∙ ap (λ k. insert (bodies_of t.entries) k.slot body) (sym next)

pub found_present : (t : Table) (handle : Handle) (live : Live) → IsTable t → Some live ≡ entry_at handle t.entries
    → contains_key (bodies_of t.entries) handle.slot ≡ true
found_present t handle live is found = indexed_present handle t.entries is.rising (ap is_some (sym found))

pub found_former : (t : Table) (handle : Handle) (live : Live) → IsTable t → Some live ≡ entry_at handle t.entries
    → get (bodies_of t.entries) handle.slot ≡ body_of handle t.entries
found_former t handle live is found = found_body handle t.entries is.rising (ap is_some (sym found))

pub moved_bodies : (t u : Table) (handle : Handle) (body : Bounds) (live : Live) → IsTable t → IsTable u → Some live ≡ entry_at handle t.entries
    → u ≡ after_set_box t handle body → bodies_of u.entries ≡ insert (bodies_of t.entries) handle.slot body
moved_bodies t u handle body live is_t is_u found after =
    let rising : rises (with_body handle body t.entries) ≡ true = subst (λ v. rises v.entries ≡ true) after is_u.rising in
    ap (λ v. bodies_of v.entries) after ∙ sym (insert-with_body handle body t.entries is_t.rising rising (ap is_some (sym found)))

pub masked_bodies : (t u : Table) (handle : Handle) (masks : Masks) → u ≡ after_set_masks t handle masks → bodies_of u.entries ≡ bodies_of t.entries
masked_bodies t u handle masks after = ap (λ v. bodies_of v.entries) after ∙ bodies_of-with_masks handle masks t.entries

pub grouped_bodies : (t u : Table) (handle : Handle) (group : Group) → u ≡ after_set_group t handle group → bodies_of u.entries ≡ bodies_of t.entries
grouped_bodies t u handle group after = ap (λ v. bodies_of v.entries) after ∙ bodies_of-with_group handle group t.entries

pub left_bodies : (t : Table) (es : List Live) (handle : Handle) (live : Live) → IsTable t → Some live ≡ entry_at handle t.entries
    → es ≡ without handle t.entries → bodies_of es ≡ remove (bodies_of t.entries) handle.slot
left_bodies t es handle live is found left = ap bodies_of left ∙ sym (remove-bodies_of handle t.entries is.rising (ap is_some (sym found)))

pub vacated_absent : (t : Table) (live : Live) → IsTable t → IsVacated live t → contains_key (bodies_of t.entries) (slot_of live) ≡ false
vacated_absent t live is vacated = indexed_vacated t.entries (slot_of live) is.rising vacated.free

pub put_back_bodies : (t u : Table) (live : Live) → IsTable t → IsTable u → IsVacated live t → u ≡ after_put_back t live
    → bodies_of u.entries ≡ insert (bodies_of t.entries) (slot_of live) live.body
put_back_bodies t u live is_t is_u vacated after =
    let rising : rises (entered live t.entries) ≡ true = subst (λ v. rises v.entries ≡ true) after is_u.rising in
    ap (λ v. bodies_of v.entries) after ∙ sym (insert-put_back t.entries live is_t.rising rising vacated.free)
