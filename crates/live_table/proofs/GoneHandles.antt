-- Handles whose box is gone: no call brings one of them back.
use Rattle.std.proofs.Common.{◌≡◌, ℕ, suc, ◌+◌, ◌<◌, ◌≤◌, ◌&&◌, true, false, cond, not, List, [], ◌∷◌, Some, None, length, eqb, ltb, refl, sym, ap, ◌∙◌}
use Rattle.std.proofs.Common.{arith, eqb-true, eq-eqb, ne_eqb, get_or, set, slice_index, get_or-set_same, get_or-set_other, inl, inr}
use Rattle.std.specs.List.{All}
use Rattle.std.proofs.lemmas.Bool.{and_parts, cases_eq, cases_lt}
use Rattle.std.proofs.lemmas.List.{set_past}
use Rattle.fixed_box.specs.Bounds.{Bounds}
use Rattle.fixed_box.specs.declared.TheConstants.{SLOTS}
use Rattle.live_table.specs.declared.group.Group.{Group}
use Rattle.live_table.specs.declared.handle.Handle.{Handle}
use Rattle.live_table.specs.declared.live.Live.{Live}
use Rattle.live_table.specs.declared.masks.Masks.{Masks}
use Rattle.live_table.specs.Changes.{TableChange, give, set_box, set_masks, set_group, take, after_change, after_changes, IsGone}
use Rattle.live_table.specs.Entries.{slot_of, has, entry_at, entered, changed, without}
use Rattle.live_table.specs.Table.{Table, IsTable, raised, least_free, next_handle, after_give, after_take}
use Rattle.live_table.proofs.EntryLemmas.{has_not, has_found}
use Rattle.live_table.proofs.UndoLemmas.{all_found}

-- where no entry has the handle, neither the first one has it nor a later one
none_parts : (h : Handle) (e : Live) (es : List Live) → entry_at h (e ∷ es) ≡ None → (has h e ≡ false) × (entry_at h es ≡ None)
none_parts h e es none =
    elim (has h e) as (λ b. cond b (Some e) (entry_at h es) ≡ None → (b ≡ false) × (entry_at h es ≡ None)) [
      | true ↦ λ some. absurd (cc)
      | false ↦ λ rest. (refl, rest)
    ] none

none_entered : (h : Handle) (new : Live) (es : List Live) → has h new ≡ false → entry_at h es ≡ None → entry_at h (entered new es) ≡ None
none_entered h new [] other none = rw other refl
none_entered h new (e ∷ es) other none =
    let p = none_parts h e es none in
    elim (ltb (slot_of e) (slot_of new)) as (λ b. entry_at h (cond b (e ∷ entered new es) (new ∷ e ∷ es)) ≡ None) [
      | true ↦ rw p.0 (none_entered h new es other p.1)
      | false ↦ rw (other, p.0) p.1
    ]

none_changed : (h k : Handle) (change : Live → Live) → ((e : Live) → (change e).handle ≡ e.handle) → (es : List Live) → entry_at h es ≡ None
    → entry_at h (changed k change es) ≡ None
none_changed h k change kept [] none = refl
none_changed h k change kept (e ∷ es) none =
    let p = none_parts h e es none in
    let rest = none_changed h k change kept es p.1 in
    let same : has h (change e) ≡ has h e = ap (λ k. eqb k.slot h.slot && eqb k.generation h.generation) (kept e) in
    elim (has k e) as (λ b. entry_at h (cond b (change e) e ∷ changed k change es) ≡ None) [
      | true ↦ rw (same ∙ p.0) rest
      | false ↦ rw p.0 rest
    ]

none_left : (h k : Handle) (es : List Live) → entry_at h es ≡ None → entry_at h (without k es) ≡ None
none_left h k [] none = refl
none_left h k (e ∷ es) none =
    let p = none_parts h e es none in
    let rest = none_left h k es p.1 in
    elim (has k e) as (λ b. entry_at h (cond (not b) (e ∷ without k es) (without k es)) ≡ None) [
      | true ↦ rest
      | false ↦ rw p.0 rest
    ]

none_taken : (h : Handle) (es : List Live) → entry_at h (without h es) ≡ None
none_taken h [] = refl
none_taken h (e ∷ es) =
    elim (has h e) as (λ b. has h e ≡ b → entry_at h (cond (not b) (e ∷ without h es) (without h es)) ≡ None) [
      | true ↦ λ _. none_taken h es
      | false ↦ λ other. rw other (none_taken h es)
    ] refl

-- no number of gives falls
raised_le : (gives : List ℕ) (slot k : ℕ) → get_or gives k 0 ≤ get_or (raised gives slot) k 0
raised_le gives slot k =
    let more : ℕ = get_or gives slot 0 + 1 in
    elim (cases_lt slot (length gives)) [
      | inr past ↦
          let same : get_or (set gives slot more) k 0 ≡ get_or gives k 0 = ap (λ ns. get_or ns k 0) (set_past gives slot more past) in
          omega (arith, same)
      | inl lt ↦
          elim (cases_eq k slot) [
            | inl at ↦
                let here : get_or (set gives slot more) k 0 ≡ more = ap (λ j. get_or (set gives slot more) j 0) at ∙ get_or-set_same gives slot more 0 lt in
                omega (arith, here, ap (λ j. get_or gives j 0) at)
            | inr other ↦ let same : get_or (set gives slot more) k 0 ≡ get_or gives k 0 = get_or-set_other gives slot k more 0 other in omega (arith, same)
          ]
    ]

-- the next handle is a new one
gone_given : (h : Handle) (t : Table) (body : Bounds) (masks : Masks) (group : Group) → IsGone h t → IsGone h (after_give t body masks group)
gone_given h t body masks group gone =
    let new : Live = record { handle = next_handle t; body = body; masks = masks; group = group } in
    (omega (arith, gone.0, raised_le t.gives (least_free t) h.slot), none_entered h new t.entries (differs new refl) gone.1)
  where
    differs : (new : Live) → new.handle ≡ next_handle t → has h new ≡ false
    differs new is =
        elim (cases_eq (slot_of new) h.slot) [
          | inl same ↦
              let slot : least_free t ≡ h.slot = ap (λ k. k.slot) (sym is) ∙ same in
              let given : new.handle.generation ≡ get_or t.gives h.slot 0 = ap (λ k. k.generation) is ∙ ap (slice_index t.gives) slot in
              rw (eq-eqb (slot_of new) h.slot same) (ne_eqb new.handle.generation h.generation (λ at. omega (arith, at, given, gone.0)))
          | inr other ↦ has_not h new other
        ]

pub gone_kept : (t : Table) (h : Handle) (change : TableChange) → IsGone h t → IsGone h (after_change t change)
gone_kept t h (give body masks group) gone =
    elim (eqb (least_free t) SLOTS) as (λ b. IsGone h (cond b t (after_give t body masks group))) [
      | true ↦ gone
      | false ↦ gone_given h t body masks group gone
    ]
gone_kept t h (set_box k body) gone = (gone.0, none_changed h k (λ e. record e { body = body }) (λ e. refl) t.entries gone.1)
gone_kept t h (set_masks k masks) gone = (gone.0, none_changed h k (λ e. record e { masks = masks }) (λ e. refl) t.entries gone.1)
gone_kept t h (set_group k group) gone = (gone.0, none_changed h k (λ e. record e { group = group }) (λ e. refl) t.entries gone.1)
gone_kept t h (take k) gone = (gone.0, none_left h k t.entries gone.1)

pub gone_still : (t : Table) (changes : List TableChange) (h : Handle) → IsGone h t → entry_at h (after_changes t changes).entries ≡ None
gone_still t [] h gone = gone.1
gone_still t (change ∷ later) h gone = gone_still (after_change t change) later h (gone_kept t h change gone)

-- a live box's handle, once the box is taken out
pub gone_taken : (t : Table) (h : Handle) (live : Live) → IsTable t → entry_at h t.entries ≡ Some live → IsGone h (after_take t h)
gone_taken t h live is found =
    let own = and_parts _ _ (has_found h live t.entries found) in
    let slot : slot_of live ≡ h.slot = eqb-true (slot_of live) h.slot own.0 in
    let generation : live.handle.generation ≡ h.generation = eqb-true live.handle.generation h.generation own.1 in
    let newest : live.handle.generation + 1 ≡ slice_index t.gives (slot_of live) =
    all_found (λ e. e.handle.generation + 1 ≡ slice_index t.gives (slot_of e)) h t.entries live is.newest found in
    let given : slice_index t.gives (slot_of live) ≡ slice_index t.gives h.slot = ap (slice_index t.gives) slot in
    (omega (arith, generation, newest, given), none_taken h t.entries)

-- a slot past the last one
pub none_past : (t : Table) (h : Handle) → IsTable t → SLOTS ≤ h.slot → entry_at h t.entries ≡ None
none_past t h is past = none_of t.entries is.small
  where
    none_of : (es : List Live) → All (λ e. slot_of e < SLOTS) es → entry_at h es ≡ None
    none_of [] small = refl
    none_of (e ∷ es) small =
        let low : slot_of e < SLOTS = small 0 e (omega arith) in
        rw (has_not h e (λ same. omega (arith, same, low, past))) (none_of es (λ k d lt. small (suc k) d (omega (arith, lt))))
