-- The pairs of slots that pass a test: those of a word and of a set, which pairs they are, and that they rise.
use Rattle.std.proofs.Common.{◌≡◌, ◌≢◌, ℕ, zero, suc, ◌+◌, ◌-◌, ◌*◌, ◌/◌, ◌%◌, ◌<◌, ◌≤◌, ◌==◌, Bool, true, false, cond, ◌&&◌, ◌||◌, List}
use Rattle.std.proofs.Common.{[], ◌∷◌, ◌++◌, get_or, ltb, refl, sym, ap, ◌∙◌}
use Rattle.std.proofs.Common.{subst, arith, append-nil, append_assoc, inl, inr, eq-eqb, ne_eqb, lt-ltb, eqb-true}
use Rattle.std.specs.Int.{bit_at}
use Rattle.std.specs.List.{list_all}
use Rattle.std.specs.Cmp.{first_so, second_so}
use Rattle.std.specs.Cmp.Derive.{both_true}
use Rattle.std.proofs.lemmas.Bool.{cases_eq, cases_Bool, and_parts, and_from, or_left, or_right, or_cases}
use Rattle.std.proofs.lemmas.List.Folds.{list_all-append, list_any-append}
use Rattle.std.proofs.lemmas.Nat.Bits.{bit_at-zero}
use Rattle.fixed_box.specs.declared.TheConstants.{SLOTS}
use Rattle.broad_index.specs.declared.pair.Pair.{Pair}
use Rattle.broad_index.specs.Members.{has_pair}
use Rattle.broad_index.specs.Near.{precedes, rises}
use Rattle.overlap_count.specs.Counts.{count_of, IsCounts}
use Rattle.overlap_count.specs.FullPairs.{pairs_with, pairs_below, full_pairs}
use Rattle.overlap_count.specs.SlotCounts.{bits_of, pairs_of_bits, is_marked, IsTable}
use Rattle.overlap_count.proofs.SetLemmas.{get_or-bits_of}
use Rattle.broad_index.specs.PairLaws.{self_same}
use Rattle.fixed_box.proofs.Numbers.{plus_one}

-- ---- the pairs of a word

pub bits_none : (a base word : ℕ) → pairs_of_bits a base word 0 ≡ []
unfolding pairs_of_bits
bits_none a base word = refl

bits_next : (a base word n : ℕ) → pairs_of_bits a base word (n + 1) ≡ pairs_of_bits a base word n ++ cond (bit_at word n == 1)
    (record { a = a; b = base + n } ∷ []) []
unfolding pairs_of_bits
bits_next a base word n = ap (pairs_of_bits a base word) (plus_one n)

pub bits_one : (a base word n : ℕ) → bit_at word n ≡ 1 → pairs_of_bits a base word (n + 1) ≡ pairs_of_bits a base word n ++ record { a = a; b = base + n } ∷ []
bits_one a base word n one =
    bits_next a base word n ∙ ap (λ t. pairs_of_bits a base word n ++ cond t (record { a = a; b = base + n } ∷ []) []) (eq-eqb (bit_at word n) 1 one)

-- places without a bit are passed over
pub bits_skip : (a base word m n : ℕ) → ((k : ℕ) → k < m + n → m ≤ k → bit_at word k ≡ 0) → pairs_of_bits a base word (m + n) ≡ pairs_of_bits a base word m
bits_skip a base word m zero h = ap (pairs_of_bits a base word) (let e : m + 0 ≡ m = omega arith in e)
bits_skip a base word m (suc n) h =
    let off : (bit_at word (m + n) == 1) ≡ false = ne_eqb (bit_at word (m + n)) 1 (λ e. absurd (omega (arith, e, h (m + n) (omega arith) (omega arith)))) in
    ap (pairs_of_bits a base word) (let e : m + suc n ≡ (m + n) + 1 = omega arith in e)
    ∙ bits_next a base word (m + n)
    ∙ ap (λ t. pairs_of_bits a base word (m + n) ++ cond t (record { a = a; b = base + (m + n) } ∷ []) []) off
    ∙ append-nil (pairs_of_bits a base word (m + n))
    ∙ bits_skip a base word m n (λ k lt le. h k (omega arith) le)

pub bits_upto : (a base word m n : ℕ) → m ≤ n → ((k : ℕ) → k < n → m ≤ k → bit_at word k ≡ 0) → pairs_of_bits a base word n ≡ pairs_of_bits a base word m
bits_upto a base word m n le h =
    let e : n ≡ m + (n - m) = omega arith in
    ap (pairs_of_bits a base word) e ∙ bits_skip a base word m (n - m) (λ k lt from. h k (omega arith) from)

pub bits_zero : (a base n : ℕ) → pairs_of_bits a base 0 n ≡ []
bits_zero a base n = bits_upto a base 0 0 n (omega arith) (λ k _ _. bit_at-zero k) ∙ bits_none a base 0

-- ---- the pairs of one slot

pub pairs_none : (a : ℕ) (f : ℕ → Bool) → pairs_with a f 0 ≡ []
unfolding pairs_with
pairs_none a f = refl

pairs_next : (a : ℕ) (f : ℕ → Bool) (n : ℕ) → pairs_with a f (n + 1) ≡ pairs_with a f n ++ cond (f n) (record { a = a; b = n } ∷ []) []
unfolding pairs_with
pairs_next a f n = ap (pairs_with a f) (plus_one n)

-- slots that fail are passed over
pairs_skip : (a : ℕ) (f : ℕ → Bool) (m n : ℕ) → ((k : ℕ) → m ≤ k → f k ≡ false) → pairs_with a f (m + n) ≡ pairs_with a f m
pairs_skip a f m zero h = ap (pairs_with a f) (let e : m + 0 ≡ m = omega arith in e)
pairs_skip a f m (suc n) h =
    ap (pairs_with a f) (let e : m + suc n ≡ (m + n) + 1 = omega arith in e)
    ∙ pairs_next a f (m + n)
    ∙ ap (λ t. pairs_with a f (m + n) ++ cond t (record { a = a; b = m + n } ∷ []) []) (h (m + n) (omega arith))
    ∙ append-nil (pairs_with a f (m + n))
    ∙ pairs_skip a f m n h

pub pairs_upto : (a : ℕ) (f : ℕ → Bool) (m n : ℕ) → m ≤ n → ((k : ℕ) → m ≤ k → f k ≡ false) → pairs_with a f n ≡ pairs_with a f m
pairs_upto a f m n le h =
    let e : n ≡ m + (n - m) = omega arith in
    ap (pairs_with a f) e ∙ pairs_skip a f m (n - m) h

-- the next slots are those of a word
pairs_bits : (a : ℕ) (f : ℕ → Bool) (m word n : ℕ) → ((k : ℕ) → k < n → f (m + k) ≡ (bit_at word k == 1))
    → pairs_with a f (m + n) ≡ pairs_with a f m ++ pairs_of_bits a m word n
pairs_bits a f m word zero h =
    ap (pairs_with a f) (let e : m + 0 ≡ m = omega arith in e) ∙ sym (append-nil (pairs_with a f m))
    ∙ ap (λ l. pairs_with a f m ++ l) (sym (bits_none a m word))
pairs_bits a f m word (suc n) h =
    let q : Pair = record { a = a; b = m + n } in
    ap (pairs_with a f) (let e : m + suc n ≡ (m + n) + 1 = omega arith in e)
    ∙ pairs_next a f (m + n)
    ∙ ap (λ t. pairs_with a f (m + n) ++ cond t (q ∷ []) []) (h n (omega arith))
    ∙ ap (λ l. l ++ cond (bit_at word n == 1) (q ∷ []) []) (pairs_bits a f m word n (λ k lt. h k (omega arith)))
    ∙ append_assoc (pairs_with a f m) (pairs_of_bits a m word n) (cond (bit_at word n == 1) (q ∷ []) [])
    ∙ ap (λ l. pairs_with a f m ++ l) (sym (bits_next a m word n) ∙ ap (pairs_of_bits a m word) (plus_one n))

abbrev pub is_in : List ℕ → ℕ → Bool
is_in words b = get_or (bits_of words) b 0 == 1

-- one word more
pub word_more : (a : ℕ) (words : List ℕ) (at word : ℕ) → word ≡ get_or words at 0
    → pairs_with a (is_in words) (64 * (at + 1)) ≡ pairs_with a (is_in words) (64 * at) ++ pairs_of_bits a (64 * at) word 64
word_more a words at word is =
    ap (pairs_with a (is_in words)) (let e : 64 * (at + 1) ≡ 64 * at + 64 = omega arith in e)
    ∙ pairs_bits a (is_in words) (64 * at) word 64 (λ k lt.
    let q : (64 * at + k) / 64 ≡ at = omega arith in
    let r : (64 * at + k) % 64 ≡ k = omega arith in
    ap (λ n. n == 1) (get_or-bits_of words (64 * at + k) ∙ ap (λ i. bit_at (get_or words i 0) ((64 * at + k) % 64)) q
    ∙ ap (bit_at (get_or words at 0)) r ∙ ap (λ w. bit_at w k) (sym is)))

-- ---- the pairs of all slots

pub below_none : (f : ℕ → ℕ → Bool) → pairs_below f 0 ≡ []
unfolding pairs_below
below_none f = refl

pub below_next : (f : ℕ → ℕ → Bool) (n : ℕ) → pairs_below f (n + 1) ≡ pairs_below f n ++ pairs_with n (f n) SLOTS
unfolding pairs_below
below_next f n = ap (pairs_below f) (plus_one n)

same_with : (a : ℕ) (f g : ℕ → Bool) → ((b : ℕ) → f b ≡ g b) → (n : ℕ) → pairs_with a f n ≡ pairs_with a g n
unfolding pairs_with
same_with a f g h zero = refl
same_with a f g h (suc n) = rw (same_with a f g h n, h n) refl

same_below : (f g : ℕ → ℕ → Bool) → ((a b : ℕ) → f a b ≡ g a b) → (n : ℕ) → pairs_below f n ≡ pairs_below g n
unfolding pairs_below
same_below f g h zero = refl
same_below f g h (suc n) = rw (same_below f g h n, same_with n (f n) (g n) (h n) SLOTS) refl

one_of : (t : Bool) → (cond {A = ℕ} t 1 0 == 1) ≡ t
one_of true = refl
one_of false = refl

-- the sets of a table have the pairs that count 3
pub marked_full : (by_slot sets : List (List ℕ)) → IsTable by_slot sets → pairs_below (is_marked sets) SLOTS ≡ full_pairs by_slot
marked_full by_slot sets t =
    same_below (is_marked sets) (λ a b. count_of by_slot a b == 3) (λ a b. ap (λ n. n == 1) (t.marked a b) ∙ one_of (count_of by_slot a b == 3)) SLOTS

-- ---- which pairs they are

abbrev same_pair : Pair → Pair → Bool
same_pair p q = p.a == q.a && p.b == q.b

any_append : (p : Pair) (xs ys : List Pair) → has_pair (xs ++ ys) p ≡ (has_pair xs p || has_pair ys p)
any_append p xs ys = list_any-append (same_pair p) xs ys

record InPairs (a : ℕ) (f : ℕ → Bool) (n : ℕ) (p : Pair) : Type 0 where
  first : p.a ≡ a
  small : p.b < n
  passes : f p.b ≡ true

one_has : (t : Bool) (p q : Pair) → has_pair (cond t (q ∷ []) []) p ≡ true → (t ≡ true) × (p.a ≡ q.a) × (p.b ≡ q.b)
one_has false p q h = absurd (cc)
one_has true p q h =
    elim (or_cases (same_pair p q) false h) [
      | inl same ↦ let parts = and_parts (p.a == q.a) (p.b == q.b) same in (refl, eqb-true p.a q.a parts.0, eqb-true p.b q.b parts.1)
      | inr none ↦ absurd (cc)
    ]

pairs_have : (a : ℕ) (f : ℕ → Bool) (n : ℕ) (p : Pair) → has_pair (pairs_with a f n) p ≡ true → InPairs a f n p
unfolding pairs_with
pairs_have a f zero p h = absurd (cc)
pairs_have a f (suc n) p h =
    let q : Pair = record { a = a; b = n } in
    let last = cond (f n) (q ∷ []) [] in
    elim (or_cases (has_pair (pairs_with a f n) p) (has_pair last p) (sym (any_append p (pairs_with a f n) last) ∙ h)) [
      | inl early ↦ let r = pairs_have a f n p early in record { first = r.first; small = omega (arith, r.small); passes = r.passes }
      | inr here ↦ let o = one_has (f n) p q here in record { first = o.1; small = omega (arith, o.2); passes = ap f o.2 ∙ o.0 }
    ]

has_one : (t : Bool) (p : Pair) → t ≡ true → has_pair (cond t (p ∷ []) []) p ≡ true
has_one true p h = or_left (same_pair p p) false (self_same p)
has_one false p h = absurd (cc)

have_pairs : (a : ℕ) (f : ℕ → Bool) (n b : ℕ) → b < n → f b ≡ true → has_pair (pairs_with a f n) (record { a = a; b = b }) ≡ true
unfolding pairs_with
have_pairs a f zero b lt passes = absurd (omega arith)
have_pairs a f (suc n) b lt passes =
    let p : Pair = record { a = a; b = b } in
    let last : List Pair = cond (f n) (record { a = a; b = n } ∷ []) [] in
    any_append p (pairs_with a f n) last ∙ elim (cases_eq b n) [
      | inl same ↦ or_right (has_pair (pairs_with a f n) p) (has_pair last p)
          (subst (λ i. has_pair (cond (f i) (record { a = a; b = i } ∷ []) []) p ≡ true) same (has_one (f b) p passes))
      | inr other ↦ or_left (has_pair (pairs_with a f n) p) (has_pair last p) (have_pairs a f n b (omega arith) passes)
    ]

below_have : (f : ℕ → ℕ → Bool) (n : ℕ) (p : Pair) → has_pair (pairs_below f n) p ≡ true → (p.a < n) × (f p.a p.b ≡ true)
unfolding pairs_below
below_have f zero p h = absurd (cc)
below_have f (suc n) p h =
    let last = pairs_with n (f n) SLOTS in
    elim (or_cases (has_pair (pairs_below f n) p) (has_pair last p) (sym (any_append p (pairs_below f n) last) ∙ h)) [
      | inl early ↦ let r = below_have f n p early in (omega (arith, r.0), r.1)
      | inr here ↦ let r = pairs_have n (f n) SLOTS p here in (omega (arith, r.first), ap (λ i. f i p.b) r.first ∙ r.passes)
    ]

have_below : (f : ℕ → ℕ → Bool) (n a b : ℕ) → a < n → b < SLOTS → f a b ≡ true → has_pair (pairs_below f n) (record { a = a; b = b }) ≡ true
unfolding pairs_below
have_below f zero a b lt small passes = absurd (omega arith)
have_below f (suc n) a b lt small passes =
    let p : Pair = record { a = a; b = b } in
    let last : List Pair = pairs_with n (f n) SLOTS in
    any_append p (pairs_below f n) last ∙ elim (cases_eq a n) [
      | inl same ↦ or_right (has_pair (pairs_below f n) p) (has_pair last p)
          (subst (λ i. has_pair (pairs_with i (f i) SLOTS) p ≡ true) same (have_pairs a (f a) SLOTS b small passes))
      | inr other ↦ or_left (has_pair (pairs_below f n) p) (has_pair last p) (have_below f n a b (omega arith) small passes)
    ]

pub members : (by_slot : List (List ℕ)) → IsCounts by_slot → (p : Pair) → has_pair (full_pairs by_slot) p ≡ (count_of by_slot p.a p.b == 3)
members by_slot known p = elim (cases_Bool (has_pair (full_pairs by_slot) p)) [
  | inl there ↦ there ∙ sym (below_have (λ a b. count_of by_slot a b == 3) SLOTS p there).1
  | inr none ↦ none ∙ sym (ne_eqb (count_of by_slot p.a p.b) 3 (λ three. fails none three))
]
  where
    fails : has_pair (full_pairs by_slot) p ≡ false → count_of by_slot p.a p.b ≢ 3
    fails none three =
        let slots = known.known p.a p.b (λ zero. absurd (omega (arith, zero, three))) in
        let there : has_pair (full_pairs by_slot) p ≡ true =
        have_below (λ a b. count_of by_slot a b == 3) SLOTS p.a p.b (omega (arith, slots.0, slots.1)) slots.1 (eq-eqb (count_of by_slot p.a p.b) 3 three) in
        absurd (cc)

-- ---- that they rise

all_from : (f : Pair → Bool) (xs : List Pair) → ((p : Pair) → has_pair xs p ≡ true → f p ≡ true) → list_all f xs ≡ true
all_from f [] h = refl
all_from f (x ∷ xs) h =
    both_true (h x (or_left (same_pair x x) (has_pair xs x) (self_same x))) (all_from f xs (λ p i. h p (or_right (same_pair p x) (has_pair xs p) i)))

rises_one : (xs : List Pair) (p : Pair) → rises xs ≡ true → list_all (λ q. precedes q p) xs ≡ true → rises (xs ++ p ∷ []) ≡ true
rises_one [] p r h = refl
rises_one (x ∷ xs) p r h =
    both_true (list_all-append (precedes x) xs (p ∷ []) ∙ both_true (first_so _ _ r) (both_true (first_so _ _ h) refl))
    (rises_one xs p (second_so _ _ r) (second_so _ _ h))

-- each pair that comes before
stands_lower : (f : ℕ → ℕ → Bool) (n m : ℕ) (p : Pair) → has_pair (pairs_below f n ++ pairs_with n (f n) m) p ≡ true
    → precedes p (record { a = n; b = m }) ≡ true
stands_lower f n m p h =
    let lt = p.a == n && ltb p.b m in
    elim (or_cases (has_pair (pairs_below f n) p) (has_pair (pairs_with n (f n) m) p) (sym (any_append p (pairs_below f n) (pairs_with n (f n) m)) ∙ h)) [
      | inl early ↦ or_left (ltb p.a n) lt (lt-ltb p.a n (below_have f n p early).0)
      | inr here ↦
          let r = pairs_have n (f n) m p here in
          or_right (ltb p.a n) lt (and_from (p.a == n) (ltb p.b m) (eq-eqb p.a n r.first) (lt-ltb p.b m r.small))
    ]

joined_rise : (f : ℕ → ℕ → Bool) (n m : ℕ) → rises (pairs_below f n) ≡ true → rises (pairs_below f n ++ pairs_with n (f n) m) ≡ true
unfolding pairs_with
joined_rise f n zero r = ap rises (append-nil (pairs_below f n)) ∙ r
joined_rise f n (suc m) r =
    let l = pairs_below f n ++ pairs_with n (f n) m in
    let q : Pair = record { a = n; b = m } in
    let before : rises l ≡ true = joined_rise f n m r in
    ap rises (sym (append_assoc (pairs_below f n) (pairs_with n (f n) m) (cond (f n m) (q ∷ []) [])))
    ∙ elim (f n m) as (λ t. rises (l ++ cond t (q ∷ []) []) ≡ true) [
      | true ↦ rises_one l q before (all_from (λ p. precedes p q) l (stands_lower f n m))
      | false ↦ ap rises (append-nil l) ∙ before
    ]

pub below_rise : (f : ℕ → ℕ → Bool) (n : ℕ) → rises (pairs_below f n) ≡ true
unfolding pairs_below
below_rise f zero = refl
below_rise f (suc n) = joined_rise f n SLOTS (below_rise f n)
