-- The lists and sets of a table when a count changes, and when a slot is forgotten.
use Rattle.std.proofs.Common.{◌≡◌, ◌≢◌, ℕ, ◌+◌, ◌-◌, ◌<◌, ◌≤◌, Bool, true, false, not, cond, ◌&&◌, ◌||◌, List, [], length, get_or}
use Rattle.std.proofs.Common.{set, eqb, ltb, refl, sym, ap, ◌∙◌, subst, arith}
use Rattle.std.proofs.Common.{length-set, get_or-set_same, get_or-set_other, inl, inr, eq-eqb, ne_eqb, lt-ltb, le-ltb, eqb-true, ltb-true}
use Rattle.std.specs.Prelude.{Result, Ok, Err, OnOk, OnErr}
use Rattle.std.proofs.lemmas.Bool.{cases_eq, cases_lt, cases_order, cases_Bool, or_left, or_right, and_left, and_right, and_parts, and_from, true≢false}
use Rattle.std.proofs.lemmas.List.{get_or_past, get_or_read, set-get_or}
use Rattle.fixed_box.specs.declared.TheConstants.{SLOTS}
use Rattle.overlap_count.specs.Counts.{count_of, IsCounts}
use Rattle.overlap_count.specs.SlotCounts.{IsTable, mark_of}
use Rattle.fixed_box.proofs.Bools.{and_comm, and_true}

-- ---- one count

pub count_is : (by_slot : List (List ℕ)) (a b : ℕ) → a < b → count_of by_slot a b ≡ get_or (get_or by_slot b []) a 0
count_is by_slot a b lt = rw (lt-ltb a b lt) refl

pub count_not : (by_slot : List (List ℕ)) (a b : ℕ) → b ≤ a → count_of by_slot a b ≡ 0
count_not by_slot a b le = rw (le-ltb a b le) refl

-- past the last list
pub count_past : (by_slot : List (List ℕ)) (a b : ℕ) → length by_slot ≤ b → count_of by_slot a b ≡ 0
count_past by_slot a b past = elim (cases_lt a b) [
  | inl lt ↦ count_is by_slot a b lt ∙ ap (λ of_slot. get_or of_slot a 0) (get_or_past by_slot b [] past)
  | inr le ↦ count_not by_slot a b le
]

pub counts : (by_slot sets : List (List ℕ)) → IsTable by_slot sets → IsCounts by_slot
counts by_slot sets t = record {
  small = t.small;
  known = λ a b some. elim (cases_lt a b) [
    | inl lt ↦ (
      lt,
      elim (cases_lt b SLOTS) [
        | inl small ↦ small
        | inr large ↦ absurd (some (count_past by_slot a b (omega (arith, t.all, large))))
      ],
    )
    | inr past ↦ absurd (some (count_not by_slot a b past))
  ];
}

-- ---- one count of a list, or one bit of a set, changes

-- the list has another number at a place
abbrev pub Changed : List ℕ → List ℕ → ℕ → ℕ → Type 0
Changed old new place v = (k : ℕ) → get_or new k 0 ≡ cond (eqb k place) v (get_or old k 0)

pub set_changes : (of_slot : List ℕ) (place v : ℕ) → place < length of_slot → Changed of_slot (set of_slot place v) place v
set_changes of_slot place v lt k = elim (cases_eq k place) [
  | inl same ↦ rw (same, eq-eqb place place refl) (get_or-set_same of_slot place v 0 lt)
  | inr other ↦ rw (ne_eqb k place other) (get_or-set_other of_slot place k v 0 other)
]

-- a 0 past the end
pub unset_changes : (of_slot : List ℕ) (place : ℕ) → Changed of_slot (set of_slot place 0) place 0
unset_changes of_slot place = elim (cases_lt place (length of_slot)) [
  | inl lt ↦ set_changes of_slot place 0 lt
  | inr past ↦ λ k.
      let zero : get_or of_slot place 0 ≡ 0 = get_or_past of_slot place 0 past in
      let same : set of_slot place 0 ≡ of_slot = ap (set of_slot place) (sym zero) ∙ set-get_or of_slot place 0 in
      ap (λ l. get_or l k 0) same ∙ elim (cases_eq k place) [
        | inl here ↦ rw (here, eq-eqb place place refl) zero
        | inr other ↦ rw (ne_eqb k place other) refl
      ]
]

pub within : (of_slot : List ℕ) (place : ℕ) → get_or of_slot place 0 ≢ 0 → place < length of_slot
within of_slot place some = elim (cases_lt place (length of_slot)) [ inl lt ↦ lt | inr past ↦ absurd (some (get_or_past of_slot place 0 past)) ]

pub counts_changed : (by_slot : List (List ℕ)) (a b v : ℕ) (of_slot : List ℕ) → a < b → b < length by_slot → Changed (get_or by_slot b []) of_slot a v
    → (x y : ℕ) → count_of (set by_slot b of_slot) x y ≡ cond (eqb x a && eqb y b) v (count_of by_slot x y)
counts_changed by_slot a b v of_slot lt in_rows h x y = elim (cases_eq y b) [
  | inl same ↦ rw same (here x)
  | inr other ↦ ap (λ r. cond (ltb x y) (get_or r x 0) 0) (get_or-set_other by_slot b y of_slot [] other)
      ∙ sym (ap (λ t. cond t v (count_of by_slot x y)) (and_right (eqb x a) (eqb y b) (ne_eqb y b other)))
]
  where
    here : (x : ℕ) → count_of (set by_slot b of_slot) x b ≡ cond (eqb x a && eqb b b) v (count_of by_slot x b)
    here x = elim (cases_lt x b) [
      | inl lower ↦
          count_is (set by_slot b of_slot) x b lower ∙ ap (λ r. get_or r x 0) (get_or-set_same by_slot b of_slot [] in_rows) ∙ h x
          ∙ ap (λ n. cond (eqb x a) v n) (sym (count_is by_slot x b lower))
          ∙ ap (λ t. cond t v (count_of by_slot x b)) (sym (ap (λ t. eqb x a && t) (eq-eqb b b refl) ∙ and_true (eqb x a)))
      | inr higher ↦ count_not (set by_slot b of_slot) x b higher
          ∙ sym (ap (λ t. cond t v (count_of by_slot x b)) (and_left (eqb x a) (eqb b b) (ne_eqb x a (λ e. absurd (omega arith))))
          ∙ count_not by_slot x b higher)
    ]

pub marks_changed : (sets : List (List ℕ)) (a b m : ℕ) (bits : List ℕ) → a < length sets → Changed (get_or sets a []) bits b m
    → (x y : ℕ) → mark_of (set sets a bits) x y ≡ cond (eqb x a && eqb y b) m (mark_of sets x y)
marks_changed sets a b m bits in_sets h x y = elim (cases_eq x a) [
  | inl same ↦ rw (same, eq-eqb a a refl) (ap (λ l. get_or l y 0) (get_or-set_same sets a bits [] in_sets) ∙ h y)
  | inr other ↦ rw (ne_eqb x a other) (ap (λ l. get_or l y 0) (get_or-set_other sets a x bits [] other))
]

-- a bit that is as it should be stays
marks_kept : (sets : List (List ℕ)) (a b m : ℕ) → mark_of sets a b ≡ m → (x y : ℕ) → mark_of sets x y ≡ cond (eqb x a && eqb y b) m (mark_of sets x y)
marks_kept sets a b m is x y = elim (cases_Bool (eqb x a && eqb y b)) [
  | inl t ↦
      let parts = and_parts (eqb x a) (eqb y b) t in
      ap (λ i. mark_of sets i y) (eqb-true x a parts.0) ∙ ap (mark_of sets a) (eqb-true y b parts.1) ∙ is
      ∙ sym (ap (λ u. cond u m (mark_of sets x y)) t)
  | inr f ↦ sym (ap (λ u. cond u m (mark_of sets x y)) f)
]

-- the bit of a pair with such a count
abbrev pub mark : ℕ → ℕ
mark n = cond (eqb n 3) 1 0

pub no_mark : (n : ℕ) → n ≢ 3 → mark n ≡ 0
no_mark n other = ap (λ t. cond {A = ℕ} t 1 0) (ne_eqb n 3 other)

-- what holds of a table that counts as `now` does, but at one pair
pub record IsChanged (by_slot sets now : List (List ℕ)) (a b v : ℕ) : Type 0 where
  pub table : IsTable by_slot sets
  pub counts : (x y : ℕ) → count_of by_slot x y ≡ cond (eqb x a && eqb y b) v (count_of now x y)

chosen : (t : Bool) (v n m : ℕ) → m ≡ mark n → cond t (mark v) m ≡ mark (cond t v n)
chosen true v n m e = refl
chosen false v n m e = e

small_either : (t : Bool) (v n : ℕ) → v ≤ 3 → n ≤ 3 → cond t v n ≤ 3
small_either true v n few le = few
small_either false v n few le = le

changed : (by_slot sets now by_slot' sets' : List (List ℕ)) (a b v : ℕ) → IsTable by_slot sets → by_slot ≡ now → v ≤ 3 → length by_slot' ≡ length by_slot
    → length sets' ≡ length sets → ((x y : ℕ) → count_of by_slot' x y ≡ cond (eqb x a && eqb y b) v (count_of by_slot x y))
    → ((x y : ℕ) → mark_of sets' x y ≡ cond (eqb x a && eqb y b) (mark v) (mark_of sets x y)) → IsChanged by_slot' sets' now a b v
changed by_slot sets now by_slot' sets' a b v t same few long wide h m = record {
  table = record {
    all = long ∙ t.all;
    all_sets = wide ∙ t.all_sets;
    small = λ x y. subst (λ n. n ≤ 3) (sym (h x y)) (small_either (eqb x a && eqb y b) v (count_of by_slot x y) few (t.small x y));
    marked = λ x y. m x y ∙ chosen (eqb x a && eqb y b) v (count_of by_slot x y) (mark_of sets x y) (t.marked x y) ∙ ap mark (sym (h x y));
  };
  counts = λ x y. h x y ∙ ap (λ l. cond (eqb x a && eqb y b) v (count_of l x y)) same;
}

-- the list and the set change
both_change : (by_slot sets now : List (List ℕ)) (a b v : ℕ) (of_slot bits : List ℕ) → IsTable by_slot sets → by_slot ≡ now → a < b → b < SLOTS → v ≤ 3
    → Changed (get_or by_slot b []) of_slot a v → Changed (get_or sets a []) bits b (mark v) → IsChanged (set by_slot b of_slot) (set sets a bits) now a b v
both_change by_slot sets now a b v of_slot bits t same lt small few h m =
    changed by_slot sets now (set by_slot b of_slot) (set sets a bits) a b v t same few (length-set by_slot b of_slot) (length-set sets a bits)
    (counts_changed by_slot a b v of_slot lt (omega (arith, t.all)) h) (marks_changed sets a b (mark v) bits (omega (arith, t.all_sets)) m)

-- the list changes, and the set has the bit that it should
list_changes : (by_slot sets now : List (List ℕ)) (a b v : ℕ) (of_slot : List ℕ) → IsTable by_slot sets → by_slot ≡ now → a < b → b < SLOTS → v ≤ 3
    → Changed (get_or by_slot b []) of_slot a v → mark_of sets a b ≡ mark v → IsChanged (set by_slot b of_slot) sets now a b v
list_changes by_slot sets now a b v of_slot t same lt small few h m =
    changed by_slot sets now (set by_slot b of_slot) sets a b v t same few (length-set by_slot b of_slot) refl
    (counts_changed by_slot a b v of_slot lt (omega (arith, t.all)) h) (marks_kept sets a b (mark v) m)

-- ---- a list and a set that are read

pub list_read : (by_slot sets : List (List ℕ)) (b : ℕ) (was : List ℕ) → IsTable by_slot sets → b < SLOTS → was ≡ get_or by_slot b was
    → was ≡ get_or by_slot b []
list_read by_slot sets b was t small read = get_or_read by_slot b was (omega (arith, t.all)) read []

pub set_read : (by_slot sets : List (List ℕ)) (a : ℕ) (was : List ℕ) → IsTable by_slot sets → a < SLOTS → was ≡ get_or sets a was → was ≡ get_or sets a []
set_read by_slot sets a was t small read = get_or_read sets a was (omega (arith, t.all_sets)) read []

pub read_count : (by_slot sets now : List (List ℕ)) (a b : ℕ) (was : List ℕ) → IsTable by_slot sets → by_slot ≡ now → a < b → b < SLOTS
    → was ≡ get_or by_slot b was
    → count_of now a b ≡ get_or was a 0
read_count by_slot sets now a b was t same lt small read =
    ap (λ l. count_of l a b) (sym same) ∙ count_is by_slot a b lt ∙ ap (λ l. get_or l a 0) (sym (list_read by_slot sets b was t small read))

pub read_mark : (by_slot sets now : List (List ℕ)) (a b n : ℕ) (was : List ℕ) → IsTable by_slot sets → by_slot ≡ now → a < SLOTS → was ≡ get_or sets a was
    → count_of now a b ≡ n → get_or was b 0 ≡ mark n
read_mark by_slot sets now a b n was t same small read count =
    ap (λ l. get_or l b 0) (set_read by_slot sets a was t small read) ∙ t.marked a b ∙ ap mark (ap (λ l. count_of l a b) same ∙ count)

-- ---- a count rises or falls, or stays, and is not 3 before or after

-- the list that a call looks at is that which the next one changes
same_list : (by_slot sets : List (List ℕ)) (b : ℕ) (first was : List ℕ) → IsTable by_slot sets → b < SLOTS → first ≡ get_or by_slot b first
    → was ≡ get_or by_slot b was
    → first ≡ was
same_list by_slot sets b first was t small read_first read = list_read by_slot sets b first t small read_first ∙ sym (list_read by_slot sets b was t small read)

not_equal : (n m : ℕ) → not (eqb n m) ≡ true → n ≢ m
not_equal n m h e = true≢false (sym h ∙ ap not (eq-eqb n m e))

-- one count changes where the list has its place, and the set stays
in_place : (by_slot sets now : List (List ℕ)) (a b v w : ℕ) (was of_slot : List ℕ) → IsTable by_slot sets → by_slot ≡ now → a < b → b < SLOTS → v ≤ 3
    → mark (count_of now a b) ≡ mark v → was ≡ get_or by_slot b was → a < length was → of_slot ≡ set was a w → w ≡ v
    → IsChanged (set by_slot b of_slot) sets now a b v
in_place by_slot sets now a b v w was of_slot t same lt small few m read within is value =
    list_changes by_slot sets now a b v of_slot t same lt small few
    (subst (λ l. Changed l of_slot a v) (list_read by_slot sets b was t small read)
    (subst (λ l. Changed was l a v) (sym (is ∙ ap (set was a) value)) (set_changes was a v within)))
    (t.marked a b ∙ ap (λ l. mark (count_of l a b)) same ∙ m)

pub raised_in_place : (rises : Bool) (by_slot sets now : List (List ℕ)) (a b : ℕ) (first was of_slot : List ℕ) → IsTable by_slot sets → by_slot ≡ now
    → a < b → b < SLOTS
    → (rises ≡ true → count_of now a b < 3) → first ≡ get_or by_slot b first → (ltb a (length first) && not (rises && eqb (get_or first a 0) 2)) ≡ true
    → was ≡ get_or by_slot b was → of_slot ≡ set was a (cond rises (get_or was a 0 + 1) (get_or was a 0))
    → IsChanged (set by_slot b of_slot) sets now a b (cond rises (count_of now a b + 1) (count_of now a b))
raised_in_place rises by_slot sets now a b first was of_slot t same lt small room read_first test read is =
    let count = read_count by_slot sets now a b was t same lt small read in
    let e = same_list by_slot sets b first was t small read_first read in
    let parts = and_parts (ltb a (length was)) (not (rises && eqb (get_or was a 0) 2))
    (subst (λ l. (ltb a (length l) && not (rises && eqb (get_or l a 0) 2)) ≡ true) e test) in
    in_place by_slot sets now a b (cond rises (count_of now a b + 1) (count_of now a b)) (cond rises (get_or was a 0 + 1) (get_or was a 0)) was of_slot
    t same lt small (few rises room) (mark_is rises room (rw count parts.1)) read (ltb-true a (length was) parts.0) is
    (ap (λ n. cond rises (n + 1) n) (sym count))
  where
    few : (rises : Bool) → (rises ≡ true → count_of now a b < 3) → cond rises (count_of now a b + 1) (count_of now a b) ≤ 3
    few true room = omega (arith, room refl)
    few false room = subst (λ l. count_of l a b ≤ 3) same (t.small a b)

    mark_is : (rises : Bool) → (rises ≡ true → count_of now a b < 3) → not (rises && eqb (count_of now a b) 2) ≡ true
        → mark (count_of now a b) ≡ mark (cond rises (count_of now a b + 1) (count_of now a b))
    mark_is true room h =
        let other = not_equal (count_of now a b) 2 h in
        no_mark (count_of now a b) (λ e. absurd (omega (arith, e, room refl))) ∙ sym (no_mark (count_of now a b + 1) (λ e. other (omega (arith, e))))
    mark_is false room h = refl

pub lowered_in_place : (lowers : Bool) (by_slot sets now : List (List ℕ)) (a b : ℕ) (first was of_slot : List ℕ) → IsTable by_slot sets → by_slot ≡ now
    → a < b → b < SLOTS
    → (lowers ≡ true → count_of now a b ≢ 0) → first ≡ get_or by_slot b first → (ltb a (length first) && not (lowers && eqb (get_or first a 0) 3)) ≡ true
    → was ≡ get_or by_slot b was → of_slot ≡ set was a (cond lowers (get_or was a 0 - 1) (get_or was a 0))
    → IsChanged (set by_slot b of_slot) sets now a b (cond lowers (count_of now a b - 1) (count_of now a b))
lowered_in_place lowers by_slot sets now a b first was of_slot t same lt small above read_first test read is =
    let count = read_count by_slot sets now a b was t same lt small read in
    let e = same_list by_slot sets b first was t small read_first read in
    let parts = and_parts (ltb a (length was)) (not (lowers && eqb (get_or was a 0) 3))
    (subst (λ l. (ltb a (length l) && not (lowers && eqb (get_or l a 0) 3)) ≡ true) e test) in
    in_place by_slot sets now a b (cond lowers (count_of now a b - 1) (count_of now a b)) (cond lowers (get_or was a 0 - 1) (get_or was a 0)) was of_slot
    t same lt small (few lowers) (mark_is lowers (rw count parts.1)) read (ltb-true a (length was) parts.0) is
    (ap (λ n. cond lowers (n - 1) n) (sym count))
  where
    small_now : count_of now a b ≤ 3
    small_now = subst (λ l. count_of l a b ≤ 3) same (t.small a b)

    few : (lowers : Bool) → cond lowers (count_of now a b - 1) (count_of now a b) ≤ 3
    few true = omega (arith, small_now)
    few false = small_now

    mark_is : (lowers : Bool) → not (lowers && eqb (count_of now a b) 3) ≡ true
        → mark (count_of now a b) ≡ mark (cond lowers (count_of now a b - 1) (count_of now a b))
    mark_is true h =
        no_mark (count_of now a b) (not_equal (count_of now a b) 3 h)
        ∙ sym (no_mark (count_of now a b - 1) (λ e. absurd (omega (arith, e, small_now))))
    mark_is false h = refl

-- where a count doesn't fall in its place it is 3, and in a place of the list
pub apart_is_full : (lowers : Bool) (by_slot sets now : List (List ℕ)) (a b : ℕ) (first : List ℕ) → IsTable by_slot sets → by_slot ≡ now → a < b → b < SLOTS
    → (lowers ≡ true → count_of now a b ≢ 0) → first ≡ get_or by_slot b first → (ltb a (length first) && not (lowers && eqb (get_or first a 0) 3)) ≡ false
    → lowers ≡ true → count_of now a b ≡ 3
apart_is_full lowers by_slot sets now a b first t same lt small above read_first test on =
    let count = read_count by_slot sets now a b first t same lt small read_first in
    let some : get_or first a 0 ≢ 0 = λ none. above on (count ∙ none) in
    elim (cases_eq (get_or first a 0) 3) [
      | inl three ↦ count ∙ three
      | inr other ↦ absurd (true≢false (sym (and_from (ltb a (length first)) (not (lowers && eqb (get_or first a 0) 3))
          (lt-ltb a (length first) (within first a some)) (ap not (and_right lowers (eqb (get_or first a 0) 3) (ne_eqb (get_or first a 0) 3 other)))) ∙ test))
    ]

-- ---- a count rises

-- it comes to 3
pub raised_full : (by_slot sets now : List (List ℕ)) (a b : ℕ) (first was of_slot has bits : List ℕ) → IsTable by_slot sets → by_slot ≡ now → a < b → b < SLOTS
    → first ≡ get_or by_slot b first → get_or first a 0 ≡ 2 → was ≡ get_or by_slot b was → of_slot ≡ set was a (get_or was a 0 + 1) → has ≡ get_or sets a has
    → Changed has bits b 1 → IsChanged (set by_slot b of_slot) (set sets a bits) now a b (count_of now a b + 1)
raised_full by_slot sets now a b first was of_slot has bits t same lt small read_first first_is read is reads m =
    let slot : a < SLOTS = omega (arith, lt, small) in
    let two : count_of now a b ≡ 2 = read_count by_slot sets now a b first t same lt small read_first ∙ first_is in
    let was_two : get_or was a 0 ≡ 2 = sym (read_count by_slot sets now a b was t same lt small read) ∙ two in
    let inside : a < length was = within was a (λ none. absurd (omega (arith, none, was_two))) in
    let h : Changed (get_or by_slot b []) of_slot a 3 =
    subst (λ l. Changed l of_slot a 3) (list_read by_slot sets b was t small read)
    (subst (λ l. Changed was l a 3) (sym (is ∙ ap (λ n. set was a (n + 1)) was_two)) (set_changes was a 3 inside)) in
    let m' : Changed (get_or sets a []) bits b (mark 3) = subst (λ l. Changed l bits b 1) (set_read by_slot sets a has t slot reads) m in
    subst (IsChanged (set by_slot b of_slot) (set sets a bits) now a b) (sym (ap (λ n. n + 1) two))
    (both_change by_slot sets now a b 3 of_slot bits t same lt small (omega arith) h m')

-- it doesn't
pub raised : (by_slot sets now : List (List ℕ)) (a b n : ℕ) (first was of_slot : List ℕ) → IsTable by_slot sets → by_slot ≡ now → a < b → b < SLOTS
    → count_of now a b < 3 → first ≡ get_or by_slot b first → n ≡ get_or first a 0 → n ≢ 2 → was ≡ get_or by_slot b was
    → Changed was of_slot a (get_or was a 0 + 1)
    → IsChanged (set by_slot b of_slot) sets now a b (count_of now a b + 1)
raised by_slot sets now a b n first was of_slot t same lt small room read_first first_is other read h =
    let slot : a < SLOTS = omega (arith, lt, small) in
    let count : count_of now a b ≡ get_or was a 0 = read_count by_slot sets now a b was t same lt small read in
    let not_two : count_of now a b ≢ 2 = λ two. other (first_is ∙ sym (read_count by_slot sets now a b first t same lt small read_first) ∙ two) in
    let h' : Changed (get_or by_slot b []) of_slot a (count_of now a b + 1) =
    subst (λ l. Changed l of_slot a (count_of now a b + 1)) (list_read by_slot sets b was t small read)
    (subst (λ n. Changed was of_slot a (n + 1)) (sym count) h) in
    let m : mark_of sets a b ≡ mark (count_of now a b + 1) =
    t.marked a b ∙ ap (λ l. mark (count_of l a b)) same ∙ no_mark (count_of now a b) (λ e. absurd (omega (arith, e, room)))
    ∙ sym (no_mark (count_of now a b + 1) (λ e. not_two (omega (arith, e)))) in
    list_changes by_slot sets now a b (count_of now a b + 1) of_slot t same lt small (omega (arith, room)) h' m

-- after either answer it is a table
pub raised_table : {T E : Type 0} (r : Result T E) (by_slot sets now : List (List ℕ)) (a b n : ℕ) (first was of_slot : List ℕ) → IsTable by_slot sets
    → by_slot ≡ now
    → a < b → b < SLOTS → count_of now a b < 3 → first ≡ get_or by_slot b first → n ≡ get_or first a 0 → n ≢ 2 → was ≡ get_or by_slot b was
    → OnOk r (Changed was of_slot a (get_or was a 0 + 1)) → OnErr r (of_slot ≡ was) → IsTable (set by_slot b of_slot) sets
raised_table (Ok x) by_slot sets now a b n first was of_slot t same lt small room read_first first_is other read h e =
    (raised by_slot sets now a b n first was of_slot t same lt small room read_first first_is other read h).table
raised_table (Err x) by_slot sets now a b n first was of_slot t same lt small room read_first first_is other read h e =
    subst (λ l. IsTable l sets) (sym (ap (set by_slot b) (e ∙ list_read by_slot sets b was t small read) ∙ set-get_or by_slot b [])) t

-- a set that stays is no change
pub same_sets : (by_slot sets : List (List ℕ)) (a : ℕ) (was bits : List ℕ) → IsTable by_slot sets → a < SLOTS → was ≡ get_or sets a was → bits ≡ was
    → IsTable by_slot (set sets a bits)
same_sets by_slot sets a was bits t small read is =
    subst (IsTable by_slot) (sym (ap (set sets a) (is ∙ set_read by_slot sets a was t small read) ∙ set-get_or sets a [])) t

-- ---- a count falls

-- the list after it
lower_changes : (of_slot : List ℕ) (place n : ℕ) → get_or of_slot place 0 ≡ n → n ≢ 0
    → Changed of_slot (set of_slot place (get_or of_slot place 0 - 1)) place (n - 1)
lower_changes of_slot place n is some =
    subst (λ m. Changed of_slot (set of_slot place (m - 1)) place (n - 1)) (sym is)
    (set_changes of_slot place (n - 1) (within of_slot place (λ none. some (sym is ∙ none))))

list_lowered : (by_slot sets now : List (List ℕ)) (a b : ℕ) (was of_slot : List ℕ) → IsTable by_slot sets → by_slot ≡ now → a < b → b < SLOTS
    → count_of now a b ≢ 0
    → was ≡ get_or by_slot b was → of_slot ≡ set was a (get_or was a 0 - 1) → Changed (get_or by_slot b []) of_slot a (count_of now a b - 1)
list_lowered by_slot sets now a b was of_slot t same lt small some read is =
    subst (λ l. Changed l of_slot a (count_of now a b - 1)) (list_read by_slot sets b was t small read)
    (subst (λ l. Changed was l a (count_of now a b - 1)) (sym is)
    (lower_changes was a (count_of now a b) (sym (read_count by_slot sets now a b was t same lt small read)) some))

-- it was 3
pub lowered_full : (by_slot sets now : List (List ℕ)) (a b : ℕ) (first was of_slot has bits : List ℕ) → IsTable by_slot sets → by_slot ≡ now → a < b → b < SLOTS
    → count_of now a b ≢ 0 → first ≡ get_or by_slot b first → get_or first a 0 ≡ 3 → was ≡ get_or by_slot b was → of_slot ≡ set was a (get_or was a 0 - 1)
    → has ≡ get_or sets a has → bits ≡ set has b 0 → IsChanged (set by_slot b of_slot) (set sets a bits) now a b (count_of now a b - 1)
lowered_full by_slot sets now a b first was of_slot has bits t same lt small some read_first three read is reads off =
    let slot : a < SLOTS = omega (arith, lt, small) in
    let count : count_of now a b ≡ 3 = read_count by_slot sets now a b first t same lt small read_first ∙ three in
    let less : count_of now a b - 1 ≢ 3 = λ e. absurd (omega (arith, e, count)) in
    let m : Changed (get_or sets a []) bits b (mark (count_of now a b - 1)) =
    subst (λ l. Changed l bits b (mark (count_of now a b - 1))) (set_read by_slot sets a has t slot reads)
    (subst (λ l. Changed has l b (mark (count_of now a b - 1))) (sym off)
    (subst (λ v. Changed has (set has b 0) b v) (sym (no_mark (count_of now a b - 1) less)) (unset_changes has b))) in
    both_change by_slot sets now a b (count_of now a b - 1) of_slot bits t same lt small (omega (arith, count))
    (list_lowered by_slot sets now a b was of_slot t same lt small some read is) m

-- it wasn't
pub lowered : (by_slot sets now : List (List ℕ)) (a b n : ℕ) (first was of_slot : List ℕ) → IsTable by_slot sets → by_slot ≡ now → a < b → b < SLOTS
    → count_of now a b ≢ 0 → first ≡ get_or by_slot b first → n ≡ get_or first a 0 → n ≢ 3 → was ≡ get_or by_slot b was
    → of_slot ≡ set was a (get_or was a 0 - 1)
    → IsChanged (set by_slot b of_slot) sets now a b (count_of now a b - 1)
lowered by_slot sets now a b n first was of_slot t same lt small some read_first first_is other read is =
    let not_three : count_of now a b ≢ 3 = λ three. other (first_is ∙ sym (read_count by_slot sets now a b first t same lt small read_first) ∙ three) in
    let few : count_of now a b ≤ 3 = subst (λ l. count_of l a b ≤ 3) same (t.small a b) in
    let m : mark_of sets a b ≡ mark (count_of now a b - 1) =
    t.marked a b ∙ ap (λ l. mark (count_of l a b)) same ∙ no_mark (count_of now a b) not_three
    ∙ sym (no_mark (count_of now a b - 1) (λ e. absurd (omega (arith, e, few)))) in
    list_changes by_slot sets now a b (count_of now a b - 1) of_slot t same lt small (omega (arith, few))
    (list_lowered by_slot sets now a b was of_slot t same lt small some read is) m

-- ---- a slot is forgotten

lt_more : (x a : ℕ) → (eqb x a || ltb x a) ≡ ltb x (a + 1)
lt_more x a = elim (cases_order x a) [
  | inl e ↦ or_left (eqb x a) (ltb x a) (eq-eqb x a e) ∙ sym (lt-ltb x (a + 1) (omega arith))
  | inr o ↦ elim o [
    | inl l ↦ or_right (eqb x a) (ltb x a) (lt-ltb x a l) ∙ sym (lt-ltb x (a + 1) (omega arith))
    | inr l ↦ rw (ne_eqb x a (λ e. absurd (omega arith)), le-ltb x a (omega arith), le-ltb x (a + 1) (omega arith)) refl
  ]
]

more_law : (here fixed before : Bool) (n : ℕ) → cond (here && fixed) 0 (cond (fixed && before) 0 n) ≡ cond (fixed && (here || before)) 0 n
more_law true true before n = refl
more_law true false before n = refl
more_law false true before n = refl
more_law false false before n = refl

-- one slot more of those with which a slot's pairs are forgotten
pub forgets_more : (here fixed : Bool) (x a n m k : ℕ) → here ≡ eqb x a → k ≡ cond (here && fixed) 0 m → m ≡ cond (fixed && ltb x a) 0 n
    → k ≡ cond (fixed && ltb x (a + 1)) 0 n
forgets_more here fixed x a n m k is e f =
    e ∙ ap (cond (here && fixed) 0) f ∙ more_law here fixed (ltb x a) n
    ∙ ap (λ b. cond (fixed && b) 0 n) (ap (λ h. h || ltb x a) is ∙ lt_more x a)

-- ---- the pairs with lower slots are forgotten

-- of the slots so far, one more: its set loses the slot
pub marks_lost : (by_slot sets : List (List ℕ)) (a slot : ℕ) (has bits : List ℕ) → a < length sets → has ≡ get_or sets a has → bits ≡ set has slot 0
    → ((x y : ℕ) → mark_of sets x y ≡ cond (eqb y slot && ltb x a) 0 (mark (count_of by_slot x y)))
    → (x y : ℕ) → mark_of (set sets a bits) x y ≡ cond (eqb y slot && ltb x (a + 1)) 0 (mark (count_of by_slot x y))
marks_lost by_slot sets a slot has bits within read is m x y =
    let h : Changed (get_or sets a []) bits slot 0 =
    subst (λ l. Changed l bits slot 0) (get_or_read sets a has within read [])
    (subst (λ l. Changed has l slot 0) (sym is) (unset_changes has slot)) in
    forgets_more (eqb x a) (eqb y slot) x a (mark (count_of by_slot x y)) (mark_of sets x y) (mark_of (set sets a bits) x y) refl
    (marks_changed sets a slot 0 bits within h x y) (m x y)

-- or never had it
pub marks_stay : (by_slot sets : List (List ℕ)) (a slot : ℕ) → count_of by_slot a slot ≢ 3
    → ((x y : ℕ) → mark_of sets x y ≡ cond (eqb y slot && ltb x a) 0 (mark (count_of by_slot x y)))
    → (x y : ℕ) → mark_of sets x y ≡ cond (eqb y slot && ltb x (a + 1)) 0 (mark (count_of by_slot x y))
marks_stay by_slot sets a slot other m x y =
    let none : mark_of sets a slot ≡ 0 =
    m a slot ∙ ap (λ t. cond t 0 (mark (count_of by_slot a slot))) (and_right (eqb slot slot) (ltb a a) (le-ltb a a (omega arith)))
    ∙ no_mark (count_of by_slot a slot) other in
    forgets_more (eqb x a) (eqb y slot) x a (mark (count_of by_slot x y)) (mark_of sets x y) (mark_of sets x y) refl
    (marks_kept sets a slot 0 none x y) (m x y)

-- the slot is in the set of a lower one where their count is 3
pub still_marked : (by_slot sets : List (List ℕ)) (a slot : ℕ) (has : List ℕ) → a < length sets → has ≡ get_or sets a has → count_of by_slot a slot ≡ 3
    → ((x y : ℕ) → mark_of sets x y ≡ cond (eqb y slot && ltb x a) 0 (mark (count_of by_slot x y))) → get_or has slot 0 ≡ 1
still_marked by_slot sets a slot has within read three m =
    ap (λ l. get_or l slot 0) (get_or_read sets a has within read []) ∙ m a slot
    ∙ ap (λ t. cond t 0 (mark (count_of by_slot a slot))) (and_right (eqb slot slot) (ltb a a) (le-ltb a a (omega arith))) ∙ ap mark three

-- the slot's own list is empty
pub list_cleared : (by_slot : List (List ℕ)) (slot : ℕ) (of_slot : List ℕ) → slot < length by_slot → of_slot ≡ []
    → (x y : ℕ) → count_of (set by_slot slot of_slot) x y ≡ cond (eqb y slot) 0 (count_of by_slot x y)
list_cleared by_slot slot of_slot within none x y = elim (cases_eq y slot) [
  | inl same ↦ rw (same, eq-eqb slot slot refl) (here x)
  | inr other ↦ rw (ne_eqb y slot other) (ap (λ r. cond (ltb x y) (get_or r x 0) 0) (get_or-set_other by_slot slot y of_slot [] other))
]
  where
    here : (x : ℕ) → count_of (set by_slot slot of_slot) x slot ≡ 0
    here x = elim (cases_lt x slot) [
      | inl lt ↦ count_is (set by_slot slot of_slot) x slot lt ∙ ap (λ r. get_or r x 0) (get_or-set_same by_slot slot of_slot [] within ∙ none)
      | inr past ↦ count_not (set by_slot slot of_slot) x slot past
    ]

lower_law : (fixed before : Bool) (n : ℕ) → (fixed ≡ true → before ≡ false → n ≡ 0) → cond (fixed && before) 0 (mark n) ≡ mark (cond fixed 0 n)
lower_law true true n h = refl
lower_law true false n h = ap mark (h refl refl)
lower_law false before n h = refl

pub lower_table : (by_slot sets by_slot' : List (List ℕ)) (slot a : ℕ) → length by_slot' ≡ SLOTS → length sets ≡ SLOTS → slot ≤ a
    → ((x y : ℕ) → count_of by_slot x y ≤ 3) → ((x y : ℕ) → count_of by_slot' x y ≡ cond (eqb y slot) 0 (count_of by_slot x y))
    → ((x y : ℕ) → mark_of sets x y ≡ cond (eqb y slot && ltb x a) 0 (mark (count_of by_slot x y))) → IsTable by_slot' sets
lower_table by_slot sets by_slot' slot a all all_sets le small h m = record {
  all = all;
  all_sets = all_sets;
  small = λ x y. subst (λ n. n ≤ 3) (sym (h x y)) (small_either (eqb y slot) 0 (count_of by_slot x y) (omega arith) (small x y));
  marked = λ x y.
      m x y
      ∙ lower_law (eqb y slot) (ltb x a) (count_of by_slot x y)
      (λ here past. count_not by_slot x y (elim (cases_lt x y) [
        | inl lt ↦ absurd (let e : ltb x a ≡ true = lt-ltb x a (omega (arith, lt, le, eqb-true y slot here)) in cc)
        | inr ge ↦ ge
      ]))
      ∙ ap mark (sym (h x y));
}

-- ---- the pairs with higher slots are forgotten

-- the slot's own set is empty
pub set_cleared : (by_slot sets : List (List ℕ)) (slot : ℕ) (bits : List ℕ) → IsTable by_slot sets → slot < SLOTS → bits ≡ []
    → (x y : ℕ) → mark_of (set sets slot bits) x y ≡ cond (eqb x slot) 0 (mark (count_of by_slot x y))
set_cleared by_slot sets slot bits t small none x y = elim (cases_eq x slot) [
  | inl same ↦ rw (same, eq-eqb slot slot refl) (ap (λ l. get_or l y 0) (get_or-set_same sets slot bits [] (omega (arith, t.all_sets)) ∙ none))
  | inr other ↦ rw (ne_eqb x slot other) (ap (λ l. get_or l y 0) (get_or-set_other sets slot x bits [] other) ∙ t.marked x y)
]

-- no slot counts anything up to its own place
pub none_yet : (by_slot : List (List ℕ)) (slot x y : ℕ) → count_of by_slot x y ≡ cond (eqb x slot && ltb y (slot + 1)) 0 (count_of by_slot x y)
none_yet by_slot slot x y = elim (cases_Bool (eqb x slot && ltb y (slot + 1))) [
  | inl t ↦
      let parts = and_parts (eqb x slot) (ltb y (slot + 1)) t in
      let same = eqb-true x slot parts.0 in
      let low = ltb-true y (slot + 1) parts.1 in
      count_not by_slot x y (omega (arith, same, low)) ∙ sym (ap (λ u. cond u 0 (count_of by_slot x y)) t)
  | inr f ↦ sym (ap (λ u. cond u 0 (count_of by_slot x y)) f)
]

-- one list more has nothing at the slot's place
pub counts_lost : (by_slot now : List (List ℕ)) (slot b : ℕ) (was of_slot : List ℕ) → slot < b → b < length by_slot → was ≡ get_or by_slot b was
    → of_slot ≡ set was slot 0
    → ((x y : ℕ) → count_of by_slot x y ≡ cond (eqb x slot && ltb y b) 0 (count_of now x y))
    → (x y : ℕ) → count_of (set by_slot b of_slot) x y ≡ cond (eqb x slot && ltb y (b + 1)) 0 (count_of now x y)
counts_lost by_slot now slot b was of_slot lt within read is h x y =
    let changes : Changed (get_or by_slot b []) of_slot slot 0 =
    subst (λ l. Changed l of_slot slot 0) (get_or_read by_slot b was within read [])
    (subst (λ l. Changed was l slot 0) (sym is) (unset_changes was slot)) in
    forgets_more (eqb y b) (eqb x slot) y b (count_of now x y) (count_of by_slot x y) (count_of (set by_slot b of_slot) x y) refl
    (counts_changed by_slot slot b 0 of_slot lt within changes x y ∙ ap (λ t. cond t 0 (count_of by_slot x y)) (and_comm (eqb x slot) (eqb y b)))
    (h x y)

-- and so all have
pub all_lost : (by_slot now : List (List ℕ)) (slot b : ℕ) → length now ≡ SLOTS → SLOTS ≤ b
    → ((x y : ℕ) → count_of by_slot x y ≡ cond (eqb x slot && ltb y b) 0 (count_of now x y))
    → (x y : ℕ) → count_of by_slot x y ≡ cond (eqb x slot) 0 (count_of now x y)
all_lost by_slot now slot b all le h x y = h x y ∙ elim (cases_lt y b) [
  | inl lt ↦ ap (λ t. cond t 0 (count_of now x y)) (ap (λ t. eqb x slot && t) (lt-ltb y b lt) ∙ and_true (eqb x slot))
  | inr past ↦ rw (count_past now x y (omega (arith, all, le, past))) (both_zero (eqb x slot && ltb y b) (eqb x slot))
]
  where
    both_zero : (t u : Bool) → cond {A = ℕ} t 0 0 ≡ cond u 0 0
    both_zero true true = refl
    both_zero true false = refl
    both_zero false true = refl
    both_zero false false = refl

pub higher_table : (by_slot sets now : List (List ℕ)) (slot : ℕ) → length by_slot ≡ SLOTS → length sets ≡ SLOTS → ((x y : ℕ) → count_of now x y ≤ 3)
    → ((x y : ℕ) → count_of by_slot x y ≡ cond (eqb x slot) 0 (count_of now x y))
    → ((x y : ℕ) → mark_of sets x y ≡ cond (eqb x slot) 0 (mark (count_of now x y))) → IsTable by_slot sets
higher_table by_slot sets now slot all all_sets small h m = record {
  all = all;
  all_sets = all_sets;
  small = λ x y. subst (λ n. n ≤ 3) (sym (h x y)) (small_either (eqb x slot) 0 (count_of now x y) (omega arith) (small x y));
  marked = λ x y. m x y ∙ chosen (eqb x slot) 0 (count_of now x y) (mark (count_of now x y)) refl ∙ ap mark (sym (h x y));
}
