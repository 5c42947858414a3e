-- A list that holds all entries of a map, and is no longer than they are, has each once.
use Rattle.std.proofs.Common.{◌≡◌, ℕ, zero, suc, ◌≤◌, ◌<◌, true, List, [], ◌∷◌, length, sym, ap, arith, inl, inr, ◌⊎◌}
use Rattle.std.specs.List.{AllByRecursion, Contains, remove}
use Rattle.std.specs.List.Sorted.{IsPermutation}
use Rattle.std.specs.Ordering.{nat_cmp}
use Rattle.std.specs.Cmp.{first_so, second_so}
use Rattle.std.specs.FinMap.{FinMap, entries, is_sorted, get, len, len-entries}
use Rattle.std.specs.FinMap.Entries.{below_all}
use Rattle.std.proofs.lemmas.List.Sorted.{IsPermutation-sym, IsPermutation-trans, IsPermutation-refl, IsPermutation-cons, IsPermutation-remove, Contains-permutation, length_permutation}
use Rattle.fixed_box.specs.Bounds.{Bounds}
use Rattle.fixed_box.proofs.Numbers.{lt_from}
use Rattle.broad_index.specs.Held.{Holds}
use Rattle.broad_index.specs.MapEntries.{Looked, looked_in, sorted}

-- a member of a list is its head, or one of the rest
head_or_rest : (y x : ℕ × Bounds) (zs : List (ℕ × Bounds)) → Contains (x ∷ zs) y → (x ≡ y) ⊎ Contains zs y
head_or_rest y x zs (zero, l, e) = inl e
head_or_rest y x zs (suc k, l, e) = inr (k, omega arith, e)

-- members of a list are in what is left where a lower one is taken out
still_in : (x : ℕ × Bounds) (xs ys : List (ℕ × Bounds)) (i : ℕ) → IsPermutation ys (x ∷ remove ys i) → below_all nat_cmp x.0 xs ≡ true
    → AllByRecursion (Contains ys) xs → AllByRecursion (Contains (remove ys i)) xs
still_in x [] ys i moved below h = tt
still_in x (y ∷ xs) ys i moved below h = (
  (elim (head_or_rest y x (remove ys i) (Contains-permutation ys (x ∷ remove ys i) y moved h.0)) as (λ _. Contains (remove ys i) y) [
    | inl same ↦ let l : x.0 < y.0 = lt_from x.0 y.0 (first_so _ _ below) in let e : x.0 ≡ y.0 = ap (λ e. e.0) same in absurd (omega arith)
    | inr c ↦ c
  ]),
  still_in x xs ys i moved (second_so _ _ below) h.1,
)

each_once : (xs ys : List (ℕ × Bounds)) → is_sorted nat_cmp xs ≡ true → AllByRecursion (Contains ys) xs → length ys ≤ length xs → IsPermutation xs ys
each_once [] [] h all l = IsPermutation-refl []
each_once [] (y ∷ ys) h all l = absurd (omega arith)
each_once (x ∷ xs) ys h all l =
    let c = all.0 in
    let moved : IsPermutation ys (x ∷ remove ys c.0) = IsPermutation-remove ys c.0 x c.1 (sym c.2) in
    let size : length (x ∷ remove ys c.0) ≡ length ys = length_permutation ys (x ∷ remove ys c.0) moved in
    let rest : IsPermutation xs (remove ys c.0) =
    each_once xs (remove ys c.0) (second_so _ _ h) (still_in x xs ys c.0 moved (first_so _ _ h) all.1) (omega arith) in
    IsPermutation-trans (x ∷ xs) (x ∷ remove ys c.0) ys (IsPermutation-cons x xs (remove ys c.0) rest) (IsPermutation-sym ys (x ∷ remove ys c.0) moved)

all_in : (bodies : FinMap nat_cmp Bounds) (es xs : List (ℕ × Bounds)) → Holds bodies es → Looked (get bodies) xs → AllByRecursion (Contains es) xs
all_in bodies es [] h l = tt
all_in bodies es (x ∷ xs) h l = (h.whole x.0 x.1 l.0, all_in bodies es xs h l.1)

pub held_once : (bodies : FinMap nat_cmp Bounds) (es : List (ℕ × Bounds)) → Holds bodies es → length es ≡ len bodies → IsPermutation (entries bodies) es
held_once bodies es h l =
    let count : len bodies ≡ length (entries bodies) = len-entries bodies in
    each_once (entries bodies) es (sorted bodies) (all_in bodies es (entries bodies) h (looked_in bodies)) (omega arith)
