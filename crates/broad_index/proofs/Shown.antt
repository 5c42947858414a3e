-- The entries of what is found, with those that are missed, are those of the map in another order.
use Rattle.std.proofs.Common.{◌≡◌, ℕ, ◌<◌, ◌≤◌, Bool, true, false, cond, not, List, [], ◌∷◌, ◌++◌, map, append_assoc, append-nil, take, drop, ◌-◌, length, slice_index_or, arith, refl, sym, ap, subst, ◌∙◌, inl, inr}
use Rattle.std.specs.Prelude.{Some, None}
use Rattle.std.specs.List.{All, AllByRecursion, filter}
use Rattle.std.specs.List.Sorted.{IsPermutation}
use Rattle.std.specs.Ordering.{nat_cmp}
use Rattle.std.specs.FinMap.{FinMap, entries, get}
use Rattle.std.proofs.lemmas.Bool.{cases_Bool}
use Rattle.std.proofs.lemmas.List.{take_all}
use Rattle.std.proofs.lemmas.List.Elements.{All-from_recursion}
use Rattle.std.proofs.lemmas.List.Sorted.{IsPermutation-sym, IsPermutation-trans, IsPermutation-refl, IsPermutation-append, IsPermutation-append_comm, IsPermutation-filter_both}
use Rattle.fixed_box.specs.Bounds.{Bounds}
use Rattle.broad_index.specs.MapEntries.{Looked, looked_in}
use Rattle.broad_index.specs.Showing.{entry_of, entries_at, HasShown}

missed_all : (p : ℕ × Bounds → Bool) (es : List (ℕ × Bounds)) → AllByRecursion (λ e. p e ≡ false) (filter (λ e. not (p e)) es)
missed_all p [] = tt
missed_all p (e ∷ es) = elim (cases_Bool (p e)) as (λ _. AllByRecursion (λ e. p e ≡ false) (cond (not (p e)) (e ∷ filter (λ e. not (p e)) es) (filter (λ e. not (p e)) es))) [
  | inl t ↦ subst (λ b. AllByRecursion (λ e. p e ≡ false) (cond (not b) (e ∷ filter (λ e. not (p e)) es) (filter (λ e. not (p e)) es))) (sym t) (missed_all p es)
  | inr f ↦ subst (λ b. AllByRecursion (λ e. p e ≡ false) (cond (not b) (e ∷ filter (λ e. not (p e)) es) (filter (λ e. not (p e)) es))) (sym f) (f, missed_all p es)
]

pub missed : (p : ℕ × Bounds → Bool) (es : List (ℕ × Bounds)) → All (λ e. p e ≡ false) (filter (λ e. not (p e)) es)
missed p es = All-from_recursion (λ e. p e ≡ false) (filter (λ e. not (p e)) es) (missed_all p es)

at_looked : (bodies : FinMap nat_cmp Bounds) (p : ℕ × Bounds → Bool) (es : List (ℕ × Bounds)) → Looked (get bodies) es
    → entries_at bodies (map (λ e. e.0) (filter p es)) ≡ filter p es
at_looked bodies p [] l = refl
at_looked bodies p (e ∷ es) l =
    let rest = at_looked bodies p es l.1 in
    elim (p e) as
    (λ b. entries_at bodies (map (λ e. e.0) (cond b (e ∷ filter p es) (filter p es))) ≡ cond b (e ∷ filter p es) (filter p es)) [
      | true ↦ (λ i. entry_of e.0 (l.0 i) ++ rest i)
      | false ↦ rest
    ]

pub at_filtered : (bodies : FinMap nat_cmp Bounds) (p : ℕ × Bounds → Bool) → entries_at bodies (map (λ e. e.0) (filter p (entries bodies))) ≡ filter p (entries bodies)
at_filtered bodies p = at_looked bodies p (entries bodies) (looked_in bodies)

-- those that are missed, then those that are found
pub both_ways : (p : ℕ × Bounds → Bool) (seen es : List (ℕ × Bounds)) → IsPermutation ((seen ++ filter (λ e. not (p e)) es) ++ filter p es) (seen ++ es)
both_ways p seen es =
    let out = filter (λ e. not (p e)) es in
    let found = filter p es in
    subst (λ l. IsPermutation l (seen ++ es)) (sym (append_assoc seen out found))
    (IsPermutation-append seen seen (out ++ found) es (IsPermutation-refl seen)
    (IsPermutation-trans (out ++ found) (found ++ out) es (IsPermutation-append_comm out found)
    (IsPermutation-sym es (found ++ out) (IsPermutation-filter_both p (λ e. not (p e)) (λ _. refl) es))))

-- the next of the rest is shown
pub shown_more : {bodies : FinMap nat_cmp Bounds} {before now then : List (ℕ × Bounds) → Type 0} (slots rest : List ℕ) → 1 ≤ length rest
    → HasShown bodies before now slots rest
    → ((seen : List (ℕ × Bounds)) → now seen → then (seen ++ entry_of (slice_index_or rest 0 0) (get bodies (slice_index_or rest 0 0))))
    → HasShown bodies before then slots (take (length rest - 1) (drop 1 rest))
shown_more slots [] l h step = absurd (omega arith)
shown_more {bodies = bodies} {then = then} slots (slot ∷ more) l h step =
    let one = entry_of slot (get bodies slot) in
    let tail : take (length (slot ∷ more) - 1) more ≡ more = take_all (length (slot ∷ more) - 1) more (omega arith) in
    record {
      shown = h.shown ++ one;
      all = ap (λ l. (h.shown ++ one) ++ entries_at bodies l) tail ∙ append_assoc h.shown one (entries_at bodies more) ∙ h.all;
      saw = λ seen b. subst then (append_assoc seen h.shown one) (step (seen ++ h.shown) (h.saw seen b));
    }

pub shown_none : {bodies : FinMap nat_cmp Bounds} {before : List (ℕ × Bounds) → Type 0} (slots : List ℕ) → HasShown bodies before before slots slots
shown_none {before = before} slots = record { shown = []; all = refl; saw = λ seen b. subst before (sym (append-nil seen)) b }

pub shown_some : {bodies : FinMap nat_cmp Bounds} {before now then : List (ℕ × Bounds) → Type 0} (slots rest : List ℕ) → 1 ≤ length rest → (b : Bounds)
    → get bodies (slice_index_or rest 0 0) ≡ Some b → HasShown bodies before now slots rest
    → ((seen : List (ℕ × Bounds)) → now seen → then (seen ++ (slice_index_or rest 0 0, b) ∷ []))
    → HasShown bodies before then slots (take (length rest - 1) (drop 1 rest))
shown_some {then = then} slots rest l b e h step =
    shown_more slots rest l h (λ seen n. subst (λ o. then (seen ++ entry_of (slice_index_or rest 0 0) o)) (sym e) (step seen n))

pub shown_gone : {bodies : FinMap nat_cmp Bounds} {before now : List (ℕ × Bounds) → Type 0} (slots rest : List ℕ) → 1 ≤ length rest
    → get bodies (slice_index_or rest 0 0) ≡ None → HasShown bodies before now slots rest
    → HasShown bodies before now slots (take (length rest - 1) (drop 1 rest))
shown_gone {now = now} slots rest l e h =
    shown_more slots rest l h
    (λ seen n. subst (λ o. now (seen ++ entry_of (slice_index_or rest 0 0) o)) (sym e) (subst now (sym (append-nil seen)) n))

-- All were shown where none is left.
pub shown_all : {bodies : FinMap nat_cmp Bounds} {before now : List (ℕ × Bounds) → Type 0} (slots rest : List ℕ) → length rest < 1
    → HasShown bodies before now slots rest → (seen : List (ℕ × Bounds)) → before seen → now (seen ++ entries_at bodies slots)
shown_all {now = now} slots [] l h seen b = subst (λ es. now (seen ++ es)) (sym (append-nil h.shown) ∙ h.all) (h.saw seen b)
shown_all slots (slot ∷ rest) l h seen b = absurd (omega arith)
