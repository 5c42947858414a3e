-- The least free slot of a table, and when no slot is free.
use Rattle.std.proofs.Common.{◌≡◌, ℕ, zero, suc, ◌+◌, ◌-◌, ◌<◌, ◌≤◌, Bool, true, false, cond, ◌&&◌, List, [], ◌∷◌, is_none, length, get_or, sum, refl, sym, ap}
use Rattle.std.proofs.Common.{◌∙◌, subst, arith, eq-eqb, ne_eqb, lt-ltb, inl, inr, nat_lt, nat_eq, Some, None, ◌⊎◌, ◌≢◌}
use Rattle.std.specs.List.{All, list_all}
use Rattle.std.proofs.lemmas.Bool.{and_parts, cases_eq, cases_lt}
use Rattle.std.proofs.lemmas.List.Sums.{get_or-le-sum_by}
use Rattle.fixed_box.specs.declared.TheConstants.{SLOTS}
use Rattle.live_table.specs.declared.TheConstants.{MOST_GIVES}
use Rattle.live_table.specs.declared.live.Live.{Live}
use Rattle.live_table.specs.Entries.{slot_of, live_at, is_free, least_from, rises}
use Rattle.live_table.specs.Table.{Table, IsTable, least_free}
use Rattle.live_table.proofs.EntryLemmas.{Above, above_from, above_so, live_above}

-- it is the first one that is free, or the one behind all
pub least_from_is : (n i : ℕ) (gives : List ℕ) (es : List Live) → i ≤ length gives
    → ((k j : ℕ) → j ≡ n + k → k < i → is_free j (get_or gives k 0) es ≡ false)
    → ((j : ℕ) → j ≡ n + i → i < length gives → is_free j (get_or gives i 0) es ≡ true)
    → least_from n gives es ≡ n + i
least_from_is n i [] es le below at = omega (arith, le)
least_from_is n zero (g ∷ later) es le below at = rw (at n (omega arith) (omega arith)) (omega arith)
least_from_is n (suc i) (g ∷ later) es le below at =
    let rest : least_from (n + 1) later es ≡ n + 1 + i = least_from_is (n + 1) i later es (omega (arith, le))
    (λ k j is lt. below (suc k) j (omega (arith, is)) (omega (arith, lt))) (λ j is lt. at j (omega (arith, is)) (omega (arith, lt))) in
    rw (below zero n (omega arith) (omega arith)) (rest ∙ omega arith)

-- it is not below the first
least_from_le : (n : ℕ) (gives : List ℕ) (es : List Live) → n ≤ least_from n gives es
least_from_le n [] es = omega arith
least_from_le n (g ∷ later) es = elim (is_free n g es) as (λ b. n ≤ cond b n (least_from (n + 1) later es)) [
  | true ↦ omega arith
  | false ↦ omega (arith, least_from_le (n + 1) later es)
]

-- where it is the one behind all, none is free
none_free : (n : ℕ) (gives : List ℕ) (es : List Live) → least_from n gives es ≡ n + length gives
    → (k j : ℕ) → j ≡ n + k → k < length gives → is_free j (get_or gives k 0) es ≡ false
none_free n [] es full k j is lt = absurd (omega (arith, lt))
none_free n (g ∷ later) es full zero j is lt =
    elim (is_free n g es) as (λ b. is_free n g es ≡ b → cond b n (least_from (n + 1) later es) ≡ n + length (g ∷ later) → is_free j g es ≡ false) [
      | true ↦ λ _ same. absurd (omega (arith, same))
      | false ↦ λ no _. subst (λ m. is_free m g es ≡ false) (omega (arith, is)) no
    ] refl full
none_free n (g ∷ later) es full (suc k) j is lt =
    elim (is_free n g es) as (λ b. cond b n (least_from (n + 1) later es) ≡ n + length (g ∷ later) → is_free j (get_or later k 0) es ≡ false) [
      | true ↦ λ same. absurd (omega (arith, same))
      | false ↦ λ rest. none_free (n + 1) later es (omega (arith, rest)) k j (omega (arith, is)) (omega (arith, lt))
    ] full

pub from_zero : (es : List Live) → Above 0 es
from_zero [] = tt
from_zero (e ∷ es) = (omega arith, from_zero es)

-- rising entries that have each of so many slots are as many
taken_len : (n m : ℕ) (es : List Live) → rises es ≡ true → Above n es → ((k : ℕ) → n ≤ k → k < n + m → is_none (live_at k es) ≡ false) → m ≤ length es
taken_len n zero es r up all = omega arith
taken_len n (suc m) [] r up all = absurd (let e : true ≡ false = all n (omega arith) (omega arith) in cc)
taken_len n (suc m) (e ∷ es) r up all =
    let p : (list_all (λ other. nat_lt (slot_of e) (slot_of other)) es ≡ true) × (rises es ≡ true) = and_parts _ _ r in
    let later : Above (slot_of e + 1) es = above_so (slot_of e) es p.0 in
    elim (cases_lt n (slot_of e)) [
      | inl lt ↦ absurd (
          let none : live_at n (e ∷ es) ≡ None = live_above n (e ∷ es) (omega (arith, lt), above_from _ _ es (omega (arith, lt)) later) in
          let some : is_none (live_at n (e ∷ es)) ≡ false = all n (omega arith) (omega arith) in
          let not : true ≡ false = sym (ap is_none none) ∙ some in
          cc)
      | inr le ↦
          let rest : m ≤ length es = taken_len (n + 1) m es p.1 (above_from _ _ es (omega (arith, up.0)) later) (λ k lo hi.
          let other : cond (nat_eq (slot_of e) k) (Some e) (live_at k es) ≡ live_at k es =
          ap (λ b. cond b (Some e) (live_at k es)) (ne_eqb (slot_of e) k (λ same. omega (arith, same, lo, le))) in
          sym (ap is_none other) ∙ all k (omega (arith, lo)) (omega (arith, hi))) in
          omega (arith, rest)
    ]

-- rising entries below a bound are at most as many as the slots between
pub len_between : (n b : ℕ) (es : List Live) → rises es ≡ true → Above n es → All (λ e. slot_of e < b) es → length es ≤ b - n
len_between n b [] r up small = omega arith
len_between n b (e ∷ es) r up small =
    let p : (list_all (λ other. nat_lt (slot_of e) (slot_of other)) es ≡ true) × (rises es ≡ true) = and_parts _ _ r in
    let later : Above (slot_of e + 1) es = above_so (slot_of e) es p.0 in
    let rest : length es ≤ b - (slot_of e + 1) = len_between (slot_of e + 1) b es p.1 later (λ k d lt. small (suc k) d (omega (arith, lt))) in
    let low : slot_of e < b = small 0 e (omega arith) in
    omega (arith, rest, low, up.0)

-- as many entries as slots have each of them
all_taken : (n m b : ℕ) (es : List Live) → b ≡ n + m → rises es ≡ true → Above n es → All (λ e. slot_of e < b) es → length es ≡ m
    → (k : ℕ) → n ≤ k → k < b → is_none (live_at k es) ≡ false
all_taken n m b [] is r up small len k lo hi = absurd (omega (arith, is, len, lo, hi))
all_taken n zero b (e ∷ es) is r up small len k lo hi = absurd (omega (arith, is, lo, hi))
all_taken n (suc m) b (e ∷ es) is r up small len k lo hi =
    let p : (list_all (λ other. nat_lt (slot_of e) (slot_of other)) es ≡ true) × (rises es ≡ true) = and_parts _ _ r in
    let later : Above (slot_of e + 1) es = above_so (slot_of e) es p.0 in
    let rest : All (λ e. slot_of e < b) es = λ k d lt. small (suc k) d (omega (arith, lt)) in
    let few : length es ≤ b - (slot_of e + 1) = len_between (slot_of e + 1) b es p.1 later rest in
    let low : slot_of e < b = small 0 e (omega arith) in
    let first : slot_of e ≡ n = omega (arith, few, low, up.0, len, is) in
    elim (cases_eq (slot_of e) k) [
      | inl same ↦ rw (eq-eqb (slot_of e) k same) refl
      | inr other ↦ rw (ne_eqb (slot_of e) k other) (all_taken (n + 1) m b es (omega (arith, is)) p.1 (above_from _ _ es (omega (arith, first)) later) rest
          (omega (arith, len)) k (omega (arith, lo, first, apart (slot_of e) k other)) hi)
    ]
  where
    apart : (a b : ℕ) → a ≢ b → (a < b) ⊎ (b < a)
    apart a b other = elim (cases_lt a b) [ inl lt ↦ inl lt | inr le ↦ inr (omega (arith, le, other)) ]

-- while few gives were counted, no slot is free only where each has a live box
pub all_live : (t : Table) → IsTable t → sum t.gives < MOST_GIVES → least_free t ≡ SLOTS → length t.entries ≡ SLOTS
all_live t is few full =
    let none = none_free 0 t.gives t.entries (omega (arith, full, is.slots)) in
    let le : SLOTS ≤ length t.entries = taken_len 0 SLOTS t.entries is.rising (from_zero t.entries) (λ k lo hi.
    let passed : is_none (live_at k t.entries) && nat_lt (get_or t.gives k 0) MOST_GIVES ≡ false = none k k (omega arith) (omega (arith, hi, is.slots)) in
    let lt : nat_lt (get_or t.gives k 0) MOST_GIVES ≡ true = lt-ltb (get_or t.gives k 0) MOST_GIVES (
    omega (arith, few, le_sum k (omega (arith, hi, is.slots)))) in
    and_first (is_none (live_at k t.entries)) _ passed lt) in
    omega (arith, le, is.few)
  where
    le_sum : (k : ℕ) → k < length t.gives → get_or t.gives k 0 ≤ sum t.gives
    le_sum k lt = get_or-le-sum_by (λ n. n) t.gives k 0 lt

    and_first : (a b : Bool) → a && b ≡ false → b ≡ true → a ≡ false
    and_first false b none all = refl
    and_first true b none all = absurd (cc)

-- where each slot has a live box, none is free
pub full_of_boxes : (t : Table) → IsTable t → length t.entries ≡ SLOTS → least_free t ≡ SLOTS
full_of_boxes t is len =
    least_from_is 0 SLOTS t.gives t.entries (omega (arith, is.slots)) (λ k j at lt.
    let taken : is_none (live_at j t.entries) ≡ false =
    all_taken 0 SLOTS SLOTS t.entries (omega arith) is.rising (from_zero t.entries) is.small len j (omega arith) (omega (arith, at, lt)) in
    rw taken refl) (λ j at lt. absurd (omega (arith, lt, is.slots))) ∙ omega arith
