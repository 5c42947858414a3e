-- The numbers that blocks of 64 keep: one of them, a write of one block, and blank blocks at the end.
use Rattle.std.proofs.Common.{◌≡◌, ◌≢◌, ℕ, zero, suc, ◌+◌, ◌*◌, ◌/◌, ◌%◌, ◌<◌, ◌≤◌, List, [], ◌∷◌, ◌++◌}
use Rattle.std.proofs.Common.{length, get_or, set, take, replicate, refl, sym, ap, ◌∙◌}
use Rattle.std.proofs.Common.{arith, get_or-set_same, get_or-set_other, length-set, length-append, ext_get_or, inl, inr}
use Rattle.std.proofs.lemmas.Bool.{cases_eq, cases_lt}
use Rattle.std.proofs.lemmas.List.{get_or_past, take_all, length-replicate, set-get_or}
use Rattle.std.proofs.lemmas.List.FromFn.{length-map-range_with_len, get_or-map-range_with_len}
use Rattle.overlap_count.specs.SlotCounts.{spread}

pub length-spread : {A : Type 0} (at : A → ℕ → ℕ) (blank : A) (ts : List A) → length (spread at blank ts) ≡ 64 * length ts
unfolding spread
length-spread at blank ts = length-map-range_with_len (λ k. at (get_or ts (k / 64) blank) (k % 64)) 0 (64 * length ts)

-- one number, also past the end
pub get_or-spread : {A : Type 0} (at : A → ℕ → ℕ) (blank : A) → ((k : ℕ) → at blank k ≡ 0) → (ts : List A) (k : ℕ)
    → get_or (spread at blank ts) k 0 ≡ at (get_or ts (k / 64) blank) (k % 64)
unfolding spread
get_or-spread at blank none ts k =
    elim (cases_lt k (64 * length ts)) [
      | inl lt ↦ get_or-map-range_with_len (λ k. at (get_or ts (k / 64) blank) (k % 64)) 0 (64 * length ts) k k 0 lt (omega arith)
      | inr past ↦
          get_or_past (spread at blank ts) k 0 (omega (arith, length-spread at blank ts))
          ∙ sym (ap (λ t. at t (k % 64)) (get_or_past ts (k / 64) blank (omega arith)) ∙ none (k % 64))
    ]

pub spread_none : {A : Type 0} (at : A → ℕ → ℕ) (blank : A) (ts : List A) → ts ≡ [] → spread at blank ts ≡ []
spread_none at blank ts none =
    ext_get_or 0 _ _ (length-spread at blank ts ∙ ap (λ l. 64 * length l) none) (λ k lt. absurd (omega (arith, length-spread at blank ts, ap length none)))

-- a write of one block that changes one number
pub spread-set : {A : Type 0} (at : A → ℕ → ℕ) (blank : A) → ((k : ℕ) → at blank k ≡ 0) → (ts : List A) (k n : ℕ) (t : A) → k < 64 * length ts
    → at t (k % 64) ≡ n → ((i : ℕ) → i < 64 → i ≢ k % 64 → at t i ≡ at (get_or ts (k / 64) blank) i)
    → spread at blank (set ts (k / 64) t) ≡ set (spread at blank ts) k n
spread-set at blank none ts k n t lt here others =
    ext_get_or 0 _ _
    (length-spread at blank (set ts (k / 64) t) ∙ ap (λ n. 64 * n) (length-set ts (k / 64) t) ∙ sym (length-spread at blank ts)
    ∙ sym (length-set (spread at blank ts) k n))
    (λ j _. elim (cases_eq j k) [
      | inl same ↦
          let block : get_or (set ts (k / 64) t) (k / 64) blank ≡ t = get_or-set_same ts (k / 64) t blank (omega arith) in
          rw same (get_or-spread at blank none (set ts (k / 64) t) k ∙ ap (λ u. at u (k % 64)) block ∙ here
          ∙ sym (get_or-set_same (spread at blank ts) k n 0 (omega (arith, length-spread at blank ts))))
      | inr other ↦
          get_or-spread at blank none (set ts (k / 64) t) j ∙ unchanged j other ∙ sym (get_or-spread at blank none ts j)
          ∙ sym (get_or-set_other (spread at blank ts) k j n 0 other)
    ])
  where
    unchanged : (j : ℕ) → j ≢ k → at (get_or (set ts (k / 64) t) (j / 64) blank) (j % 64) ≡ at (get_or ts (j / 64) blank) (j % 64)
    unchanged j other =
        elim (cases_eq (j / 64) (k / 64)) [
          | inl same ↦
              let block : get_or (set ts (k / 64) t) (j / 64) blank ≡ t =
              ap (λ n. get_or (set ts (k / 64) t) n blank) same ∙ get_or-set_same ts (k / 64) t blank (omega arith) in
              ap (λ u. at u (j % 64)) block ∙ others (j % 64) (omega arith) (λ places. other (omega arith))
              ∙ ap (λ n. at (get_or ts n blank) (j % 64)) (sym same)
          | inr apart ↦ ap (λ u. at u (j % 64)) (get_or-set_other ts (k / 64) (j / 64) t blank apart)
        ]

-- a 0 that is written where 0 stands changes nothing
pub unchanged : (xs : List ℕ) (i : ℕ) → get_or xs i 0 ≡ 0 → xs ≡ set xs i 0
unchanged xs i is = sym (ap (set xs i) (sym is) ∙ set-get_or xs i 0)

-- ---- blank blocks at the end

blanks : {A : Type 0} (blank : A) (n i : ℕ) → get_or (replicate n blank) i blank ≡ blank
blanks blank zero i = refl
blanks blank (suc n) zero = refl
blanks blank (suc n) (suc i) = blanks blank n i

pub padded : {A : Type 0} (blank : A) (ts : List A) (n i : ℕ) → get_or (ts ++ replicate n blank) i blank ≡ get_or ts i blank
padded blank [] n i = blanks blank n i
padded blank (t ∷ ts) n zero = refl
padded blank (t ∷ ts) n (suc i) = padded blank ts n i

pub grown_is : {A : Type 0} (blank : A) (old new : List A) (n m : ℕ) (t : A) → t ≡ blank → length old ≤ n → new ≡ take n old ++ replicate m t
    → new ≡ old ++ replicate m blank
grown_is blank old new n m t e few is = is ∙ ap (λ r. r ++ replicate m t) (take_all n old few) ∙ ap (λ u. old ++ replicate m u) e

pub grown_at : {A : Type 0} (at : A → ℕ → ℕ) (blank : A) → ((k : ℕ) → at blank k ≡ 0) → (old new : List A) (m : ℕ) → new ≡ old ++ replicate m blank
    → (k : ℕ) → get_or (spread at blank new) k 0 ≡ get_or (spread at blank old) k 0
grown_at at blank none old new m is k =
    get_or-spread at blank none new k ∙ ap (λ t. at t (k % 64)) (ap (λ l. get_or l (k / 64) blank) is ∙ padded blank old m (k / 64))
    ∙ sym (get_or-spread at blank none old k)

pub grown_spread : {A : Type 0} (at : A → ℕ → ℕ) (blank : A) → ((k : ℕ) → at blank k ≡ 0) → (old new : List A) (m : ℕ) → new ≡ old ++ replicate m blank
    → spread at blank new ≡ spread at blank old ++ replicate (64 * m) 0
grown_spread at blank none old new m is =
    let long : length new ≡ length old + m = ap length is ∙ length-append old (replicate m blank) ∙ ap (λ n. length old + n) (length-replicate m blank) in
    ext_get_or 0 _ _
    (omega (
      arith,
      length-spread at blank new,
      length-spread at blank old,
      length-append (spread at blank old) (replicate (64 * m) 0),
      length-replicate {A = ℕ}
          (64 * m) 0,
      long,
    ))
    (λ k _. grown_at at blank none old new m is k ∙ sym (padded 0 (spread at blank old) (64 * m) k))
