-- A table whose boxes have the slots from 0 on keeps them, whichever box comes, moves or is replaced.
use Rattle.std.proofs.Common.{◌≡◌, ℕ, zero, suc, ◌+◌, ◌-◌, ◌<◌, Bool, true, false, cond, ◌==◌, nat_lt, List, [], ◌∷◌, ◌++◌, length, map}
use Rattle.std.proofs.Common.{is_none, ◌≤◌, ◌⊎◌, inl, inr, lt-ltb, Some}
use Rattle.std.proofs.Common.{replicate, refl, sym, subst, ap, ◌∙◌, arith, get_or, get_or-set_same, get_or-set_other, set, slice_index}
use Rattle.std.proofs.lemmas.Bool.Decides.{nat_tests}
use Rattle.std.proofs.lemmas.Bool.{cases_eq, cases_lt}
use Rattle.std.proofs.lemmas.List.{length-append, length-replicate, length-set, set_past}
use Rattle.fixed_box.specs.Bounds.{Bounds}
use Rattle.fixed_box.specs.declared.TheConstants.{SLOTS}
use Rattle.live_table.specs.declared.TheConstants.{MOST_GIVES}
use Rattle.live_table.specs.declared.group.Group.{Group}
use Rattle.live_table.specs.declared.handle.Handle.{Handle}
use Rattle.live_table.specs.declared.live.Live.{Live}
use Rattle.live_table.specs.declared.masks.Masks.{Masks}
use Rattle.live_table.specs.Entries.{slot_of, has, live_at, least_from, entered, with_body, without}
use Rattle.live_table.specs.Table.{Table, raised, least_free, next_handle, after_give, after_set_box, after_take}
use Rattle.scene_drill.specs.Slots.{AreAt, AreBut, gives_after, Follows}

-- a box in a slot
abbrev under : ℕ → ℕ → Handle
under slot generation = record { slot = slot; generation = generation }

length_at : (n : ℕ) (gs : List ℕ) (es : List Live) → AreAt n gs es → length es ≡ length gs
length_at n [] [] h = refl
length_at n [] (e ∷ es) h = absurd h
length_at n (g ∷ gs) [] h = absurd h
length_at n (g ∷ gs) (e ∷ es) h = ap suc (length_at (n + 1) gs es h.1)

-- each of these slots has an entry
taken_at : (n : ℕ) (gs : List ℕ) (es : List Live) → AreAt n gs es → (slot : ℕ) → n ≤ slot → slot < n + length gs → is_none (live_at slot es) ≡ false
taken_at n [] [] h slot lo hi = absurd (omega (arith, lo, hi))
taken_at n [] (e ∷ es) h slot lo hi = absurd h
taken_at n (g ∷ gs) [] h slot lo hi = absurd h
taken_at n (g ∷ gs) (e ∷ es) h slot lo hi =
    let here : slot_of e ≡ n = ap (λ x. x.slot) h.0 in
    elim (slot_of e == slot) as (λ t. (slot_of e == slot) ≡ t → is_none (cond t (Some e) (live_at slot es)) ≡ false) [
      | true ↦ λ _. refl
      | false ↦ λ other. taken_at (n + 1) gs es h.1 slot (past n (slot_of e) slot here lo other) (omega (arith, hi))
    ] refl
  where
    past : (n k slot : ℕ) → k ≡ n → n ≤ slot → (k == slot) ≡ false → n + 1 ≤ slot
    past n k slot here lo other = grind (arith, nat_tests)

-- a slot below or above them has none
none_at : (n : ℕ) (gs : List ℕ) (es : List Live) → AreAt n gs es → (slot : ℕ) → (slot < n) ⊎ (n + length gs ≤ slot) → is_none (live_at slot es) ≡ true
none_at n [] [] h slot out = refl
none_at n [] (e ∷ es) h slot out = absurd h
none_at n (g ∷ gs) [] h slot out = absurd h
none_at n (g ∷ gs) (e ∷ es) h slot out =
    let here : slot_of e ≡ n = ap (λ x. x.slot) h.0 in
    let apart : (slot_of e == slot) ≡ false =
    elim out [ inl lt ↦ lower (slot_of e) n slot here lt | inr ge ↦ higher (slot_of e) n slot here (omega (arith, ge)) ] in
    rw apart (none_at (n + 1) gs es h.1 slot (elim out [ inl lt ↦ inl (omega (arith, lt)) | inr ge ↦ inr (omega (arith, ge)) ]))
  where
    lower : (k n slot : ℕ) → k ≡ n → slot < n → (k == slot) ≡ false
    lower k n slot here lt = grind (arith, nat_tests)

    higher : (k n slot : ℕ) → k ≡ n → n < slot → (k == slot) ≡ false
    higher k n slot here lt = grind (arith, nat_tests)

-- the least free slot: each lower one has an entry, it has none, and it may be given again
least_slot : (n i : ℕ) (gives : List ℕ) (es : List Live) → i < length gives → ((slot : ℕ) → n ≤ slot → slot < n + i → is_none (live_at slot es) ≡ false)
    → ((slot : ℕ) → slot ≡ n + i → is_none (live_at slot es) ≡ true) → get_or gives i 0 < MOST_GIVES → least_from n gives es ≡ n + i
least_slot n i [] es low taken gap few = absurd (omega (arith, low))
least_slot n zero (g ∷ gs) es low taken gap few =
    let again : nat_lt g MOST_GIVES ≡ true = lt-ltb g MOST_GIVES few in
    rw (gap n (omega arith), again) (omega arith)
least_slot n (suc i) (g ∷ gs) es low taken gap few =
    let rest : least_from (n + 1) gs es ≡ n + 1 + i = least_slot (n + 1) i gs es (omega (arith, low))
    (λ slot lo hi. taken slot (omega (arith, lo)) (omega (arith, hi))) (λ slot is. gap slot (omega (arith, is))) few in
    rw (taken n (omega arith) (omega arith)) (rest ∙ omega arith)

-- a box that comes behind the last one
entered_last : (n g : ℕ) (gs : List ℕ) (es : List Live) (new : Live) → AreAt n gs es → new.handle ≡ under (n + length gs) g
    → AreAt n (gs ++ g ∷ []) (entered new es)
entered_last n g [] [] new h e = (e ∙ ap (λ k. under k g) (omega arith), tt)
entered_last n g [] (x ∷ es) new h e = absurd h
entered_last n g (y ∷ gs) [] new h e = absurd h
entered_last n g (y ∷ gs) (x ∷ es) new h e =
    let here : slot_of x ≡ n = ap (λ k. k.slot) h.0 in
    let there : slot_of new ≡ n + suc (length gs) = ap (λ k. k.slot) e in
    let low : nat_lt (slot_of x) (slot_of new) ≡ true = grind (arith, nat_tests) in
    rw low (h.0, entered_last (n + 1) g gs es new h.1 (e ∙ ap (λ k. under k g) (omega arith)))

-- a box that moves
changed_at : (n : ℕ) (gs : List ℕ) (es : List Live) (handle : Handle) (body : Bounds) → AreAt n gs es → AreAt n gs (with_body handle body es)
changed_at n [] [] handle body h = tt
changed_at n [] (e ∷ es) handle body h = absurd h
changed_at n (g ∷ gs) [] handle body h = absurd h
changed_at n (g ∷ gs) (e ∷ es) handle body h = (same (has handle e) ∙ h.0, changed_at (n + 1) gs es handle body h.1)
  where
    same : (t : Bool) → (cond t (record e { body = body }) e).handle ≡ e.handle
    same true = refl
    same false = refl

-- no entry past a slot has it
without_lower : (m : ℕ) (gs : List ℕ) (es : List Live) (handle : Handle) → AreAt m gs es → handle.slot < m → without handle es ≡ es
without_lower m [] [] handle h low = refl
without_lower m [] (e ∷ es) handle h low = absurd h
without_lower m (g ∷ gs) [] handle h low = absurd h
without_lower m (g ∷ gs) (e ∷ es) handle h low =
    let here : slot_of e ≡ m = ap (λ k. k.slot) h.0 in
    let no : (slot_of e == handle.slot) ≡ false = grind (arith, nat_tests) in
    rw no (ap (λ l. e ∷ l) (without_lower (m + 1) gs es handle h.1 (omega (arith, low))))

first_gone : (n g : ℕ) (gs : List ℕ) (es : List Live) → AreAt (n + 1) gs es → AreBut n 0 (g ∷ gs) es
first_gone n g [] [] h = record {
  taken = λ slot lo hi. absurd (omega (arith, lo, hi));
  gap = λ slot is. refl;
  count = refl;
  back = λ new k e. (e ∙ ap (λ j. under j k) (omega arith), tt);
}
first_gone n g [] (x ∷ es) h = absurd h
first_gone n g (y ∷ gs) [] h = absurd h
first_gone n g (y ∷ gs) (x ∷ es) h =
    let here : slot_of x ≡ n + 1 = ap (λ k. k.slot) h.0 in
    record {
      taken = λ slot lo hi. absurd (omega (arith, lo, hi));
      gap = λ slot is. none_at (n + 1) (y ∷ gs) (x ∷ es) h slot (inl (omega (arith, is)));
      count = omega (arith, length_at (n + 1) (y ∷ gs) (x ∷ es) h);
      back = λ new k e.
          let there : slot_of new ≡ n + 0 = ap (λ j. j.slot) e in
          let no : nat_lt (slot_of x) (slot_of new) ≡ false = grind (arith, nat_tests) in
          rw no (e ∙ ap (λ j. under j k) (omega arith), h);
    }

-- the entries without a box that was among them
gone : (n i : ℕ) (gs : List ℕ) (es : List Live) → AreAt n gs es → i < length gs → AreBut n i gs (without (under (n + i) (get_or gs i 0)) es)
gone n i [] es h low = absurd (omega (arith, low))
gone n i (g ∷ gs) [] h low = absurd h
gone n zero (g ∷ gs) (e ∷ es) h low =
    let here : slot_of e ≡ n = ap (λ k. k.slot) h.0 in
    let its : e.handle.generation ≡ g = ap (λ k. k.generation) h.0 in
    let yes : (slot_of e == n + 0) ≡ true = grind (arith, nat_tests) in
    let same : (e.handle.generation == g) ≡ true = grind (arith, nat_tests) in
    rw (yes, same, without_lower (n + 1) gs es (under (n + 0) g) h.1 (omega arith)) (first_gone n g gs es h.1)
gone n (suc i) (g ∷ gs) (e ∷ es) h low =
    let here : slot_of e ≡ n = ap (λ k. k.slot) h.0 in
    let no : (slot_of e == n + suc i) ≡ false = grind (arith, nat_tests) in
    let shift : n + suc i ≡ n + 1 + i = omega arith in
    let P : ℕ → Type 0 = λ k. AreBut (n + 1) i gs (without (under k (get_or gs i 0)) es) in
    let rest : P (n + suc i) = subst P (sym shift) (gone (n + 1) i gs es h.1 (omega (arith, low))) in
    rw no (record {
      taken = λ slot lo hi. elim (slot_of e == slot) as (λ t. (slot_of e == slot) ≡ t
          → is_none (cond t (Some e) (live_at slot (without (under (n + suc i) (get_or gs i 0)) es))) ≡ false) [
            | true ↦ λ _. refl
            | false ↦ λ other. rest.taken slot (past n (slot_of e) slot here lo other) (omega (arith, hi))
          ] refl;
      gap = λ slot is. rw (apart n (slot_of e) slot i here is) (rest.gap slot (omega (arith, is)));
      count = omega (arith, rest.count);
      back = λ new k f.
          let there : slot_of new ≡ n + suc i = ap (λ j. j.slot) f in
          let low : nat_lt (slot_of e) (slot_of new) ≡ true = grind (arith, nat_tests) in
          rw low (h.0, rest.back new k (f ∙ ap (λ j. under j k) (omega arith)));
    })
  where
    past : (n k slot : ℕ) → k ≡ n → n ≤ slot → (k == slot) ≡ false → n + 1 ≤ slot
    past n k slot here lo other = grind (arith, nat_tests)

    apart : (n k slot i : ℕ) → k ≡ n → slot ≡ n + suc i → (k == slot) ≡ false
    apart n k slot i here is = grind (arith, nat_tests)

-- the next slot is given for the first time
raised_end : (gs : List ℕ) (k : ℕ) → raised (map suc gs ++ replicate (suc k) 0) (length gs) ≡ map suc (gs ++ 0 ∷ []) ++ replicate k 0
raised_end [] k = refl
raised_end (g ∷ gs) k = ap (λ l. suc g ∷ l) (raised_end gs k)

given_past : (gs : List ℕ) (k : ℕ) → slice_index (map suc gs ++ replicate (suc k) 0) (length gs) ≡ 0
given_past [] k = refl
given_past (g ∷ gs) k = given_past gs k

-- a slot is given once more
raised_at : (gs rest : List ℕ) (i : ℕ) → i < length gs → raised (map suc gs ++ rest) i ≡ map suc (set gs i (get_or gs i 0 + 1)) ++ rest
raised_at [] rest i h = absurd (omega (arith, h))
raised_at (g ∷ gs) rest zero h = ap (λ k. k ∷ (map suc gs ++ rest)) (omega arith)
raised_at (g ∷ gs) rest (suc i) h = ap (λ l. suc g ∷ l) (raised_at gs rest i (omega (arith, h)))

given_at : (gs rest : List ℕ) (i : ℕ) → i < length gs → slice_index (map suc gs ++ rest) i ≡ get_or gs i 0 + 1
given_at [] rest i h = absurd (omega (arith, h))
given_at (g ∷ gs) rest zero h = omega arith
given_at (g ∷ gs) rest (suc i) h = given_at gs rest i (omega (arith, h))

len_gives : (gs : List ℕ) → length (gives_after gs) ≡ length gs + (SLOTS - length gs)
len_gives gs = more gs (SLOTS - length gs)
  where
    more : (gs : List ℕ) (n : ℕ) → length (map suc gs ++ replicate n 0) ≡ length gs + n
    more [] n = let none : ℕ = 0 in omega (arith, length-replicate n none)
    more (g ∷ gs) n = omega (arith, more gs n)

pub many_follow : (gs : List ℕ) (t : Table) → Follows gs t → length t.entries ≡ length gs
many_follow gs t f = length_at 0 gs t.entries f.entries

-- a new box takes the next slot
pub new_follows : (gs : List ℕ) (t : Table) (body : Bounds) (masks : Masks) (group : Group) → Follows gs t → length gs < SLOTS
    → Follows (gs ++ 0 ∷ []) (after_give t body masks group)
new_follows gs t body masks group f low =
    let left : ℕ = SLOTS - length (gs ++ 0 ∷ []) in
    let count : length (gs ++ 0 ∷ []) ≡ length gs + 1 = length-append gs (0 ∷ []) in
    let more : SLOTS - length gs ≡ suc left = omega (arith, low, count) in
    let gives : t.gives ≡ map suc gs ++ replicate (suc left) 0 = f.gives ∙ ap (λ k. map suc gs ++ replicate k 0) more in
    let never : get_or t.gives (length gs) 0 ≡ 0 = ap (λ l. get_or l (length gs) 0) gives ∙ given_past gs left in
    let slot : least_free t ≡ length gs = least_slot 0 (length gs) t.gives t.entries (omega (arith, ap length f.gives, len_gives gs, low))
    (λ k lo hi. taken_at 0 gs t.entries f.entries k lo hi) (λ k is. none_at 0 gs t.entries f.entries k (inr (omega (arith, is)))) (omega (arith, never))
    ∙ omega arith in
    let name : next_handle t ≡ under (length gs) 0 =
    ap (λ k. under k (slice_index t.gives k)) slot ∙ ap (λ l. under (length gs) (slice_index l (length gs))) gives
    ∙ ap (λ k. under (length gs) k) (given_past gs left) in
    record {
      entries = entered_last 0 0 gs t.entries _ f.entries (name ∙ ap (λ k. under k 0) (omega arith));
      gives = ap (raised t.gives) slot ∙ ap (λ l. raised l (length gs)) gives ∙ raised_end gs left;
    }

pub moved_follows : (gs : List ℕ) (t : Table) (handle : Handle) (body : Bounds) → Follows gs t → Follows gs (after_set_box t handle body)
moved_follows gs t handle body f = record { entries = changed_at 0 gs t.entries handle body f.entries; gives = f.gives }

-- a table without one of its boxes
but_at : (gs : List ℕ) (t : Table) (i : ℕ) → Follows gs t → i < length gs → AreBut 0 i gs (without (under i (get_or gs i 0)) t.entries)
but_at gs t i f low =
    subst (λ k. AreBut 0 i gs (without (under k (get_or gs i 0)) t.entries)) {x = 0 + i} {y = i} (omega arith) (gone 0 i gs t.entries f.entries low)

-- a box is taken
pub fewer_follow : (gs : List ℕ) (t : Table) (i : ℕ) → Follows gs t → i < length gs → length (after_take t (under i (get_or gs i 0))).entries + 1 ≡ length gs
fewer_follow gs t i f low = (but_at gs t i f low).count

-- and another takes its slot
pub replaced_follows : (gs : List ℕ) (t : Table) (i : ℕ) (body : Bounds) (masks : Masks) (group : Group) → Follows gs t → i < length gs
    → get_or gs i 0 + 1 < MOST_GIVES → Follows (set gs i (get_or gs i 0 + 1)) (after_give (after_take t (under i (get_or gs i 0))) body masks group)
replaced_follows gs t i body masks group f low few =
    let but = but_at gs t i f low in
    let left : Table = after_take t (under i (get_or gs i 0)) in
    let never : List ℕ = replicate (SLOTS - length gs) 0 in
    let raise : ℕ = get_or gs i 0 + 1 in
    let given : get_or t.gives i 0 ≡ raise = ap (λ l. get_or l i 0) f.gives ∙ given_at gs never i low in
    let slot : least_free left ≡ i = least_slot 0 i t.gives left.entries (omega (arith, ap length f.gives, len_gives gs, low)) but.taken but.gap
    (omega (arith, given, few)) ∙ omega arith in
    let name : next_handle left ≡ under i raise =
    ap (λ k. under k (slice_index t.gives k)) slot ∙ ap (λ l. under i (slice_index l i)) f.gives ∙ ap (λ k. under i k) (given_at gs never i low) in
    record {
      entries = but.back _ raise (name ∙ ap (λ k. under k raise) (omega arith));
      gives = ap (raised t.gives) slot ∙ ap (λ l. raised l i) f.gives ∙ raised_at gs never i low
          ∙ ap (λ k. map suc (set gs i raise) ++ replicate (SLOTS - k) 0) (sym (length-set gs i raise));
    }

-- no slot is of a later generation than there were replacements
pub new_young : (gs : List ℕ) (k n : ℕ) → ((j : ℕ) → get_or gs j 0 ≤ n) → get_or (gs ++ 0 ∷ []) k 0 ≤ n
new_young [] zero n young = young 0
new_young [] (suc k) n young = young 0
new_young (g ∷ gs) zero n young = young 0
new_young (g ∷ gs) (suc k) n young = new_young gs k n (λ j. young (suc j))

pub replaced_young : (gs : List ℕ) (i k n : ℕ) → ((j : ℕ) → get_or gs j 0 ≤ n) → get_or (set gs i (get_or gs i 0 + 1)) k 0 ≤ n + 1
replaced_young gs i k n young =
    elim (cases_lt i (length gs)) [
      | inr past ↦ let same : get_or (set gs i raise) k 0 ≡ get_or gs k 0 = ap (λ l. get_or l k 0) (set_past gs i raise past) in omega (arith, same, young k)
      | inl lt ↦
          elim (cases_eq k i) [
            | inl at ↦
                let here : get_or (set gs i raise) k 0 ≡ raise = ap (λ j. get_or (set gs i raise) j 0) at ∙ get_or-set_same gs i raise 0 lt in
                omega (arith, here, young i)
            | inr other ↦
                let same : get_or (set gs i raise) k 0 ≡ get_or gs k 0 = get_or-set_other gs i k raise 0 other in
                omega (arith, same, young k)
          ]
    ]
  where
    raise : ℕ
    raise = get_or gs i 0 + 1
