-- Boxes in a list by their slots.
use Rattle.std.proofs.Common.{◌≡◌, ℕ, zero, suc, ◌+◌, ◌-◌, ◌<◌, ◌≤◌, Bool, false, true, List, [], ◌∷◌, length, get_or, map, Option, None, Some}
use Rattle.std.proofs.Common.{is_some, cond, refl, sym, ap, ◌∙◌, arith, inl, inr, ◌⊎◌, All}
use Rattle.std.proofs.lemmas.Bool.{true≢false}
use Rattle.std.specs.Ordering.{nat_cmp}
use Rattle.std.specs.FinMap.{FinMap, get, contains_key, empty_of_len, get-empty, insert, len, len-entries, len-insert, len-remove, remove}
use Rattle.std.proofs.lemmas.Cmp.{nat_cmp_total}
use Rattle.fixed_box.specs.Bounds.{Bounds}
use Rattle.fixed_box.proofs.Lists.{past}
use Rattle.slot_lists.specs.SlotMap.{entries_from, map_of}
use Rattle.slot_lists.specs.SlotMapLaws.{entries_of_map, get_map}

below_or : (n s : ℕ) → (n ≤ s) ⊎ (s < n)
below_or n s = grind arith

some_within : (boxes : List (Option Bounds)) (s : ℕ) → is_some (get_or boxes s None) ≡ true → s < length boxes
some_within boxes s h = elim (below_or (length boxes) s) as (λ _. s < length boxes) [
  | inl le ↦ absurd (true≢false (sym h ∙ ap is_some (past boxes s le)))
  | inr lt ↦ lt
]

-- a present slot is a place of the list
pub present_within : (boxes : List (Option Bounds)) (now : FinMap nat_cmp Bounds) (s : ℕ) → map_of boxes ≡ now → contains_key now s ≡ true → s < length boxes
present_within boxes now s is h = some_within boxes s (ap is_some (sym (get_map boxes s) ∙ ap (λ m. get m s) is) ∙ h)

-- the slots among a list's entries have boxes
entry_some : (n : ℕ) (boxes : List (Option Bounds)) (p : ℕ → Bool) → ((k : ℕ) → is_some (get_or boxes k None) ≡ true → p (n + k) ≡ true)
    → All (λ s. p s ≡ true) (map (λ (e : ℕ × Bounds). e.0) (entries_from n boxes))
entry_some n [] p h = λ i d l. absurd (omega arith)
entry_some n (None ∷ xs) p h = entry_some (n + 1) xs p (λ k s. let e : n + suc k ≡ (n + 1) + k = omega arith in ap p (sym e) ∙ h (suc k) s)
entry_some n (Some v ∷ xs) p h = λ i d l.
    (elim i as (λ i. i < length (n ∷ map (λ (e : ℕ × Bounds). e.0) (entries_from (n + 1) xs))
    → p (get_or (n ∷ map (λ (e : ℕ × Bounds). e.0) (entries_from (n + 1) xs)) i d) ≡ true) [
      | zero ↦ λ _. let e : n ≡ n + 0 = omega arith in ap p e ∙ h 0 refl
      | suc j ↦ λ l. entry_some (n + 1) xs p (λ k s. let e : n + suc k ≡ (n + 1) + k = omega arith in ap p (sym e) ∙ h (suc k) s) j d (omega arith)
    ]) l

pub slots_present : (boxes : List (Option Bounds)) → All (λ s. contains_key (map_of boxes) s ≡ true) (map (λ (e : ℕ × Bounds). e.0) (entries_from 0 boxes))
slots_present boxes = entry_some 0 boxes (contains_key (map_of boxes))
    (λ k h. let e : 0 + k ≡ k = omega arith in ap (contains_key (map_of boxes)) e ∙ ap is_some (get_map boxes k) ∙ h)

entries_few : (n : ℕ) (boxes : List (Option Bounds)) → length (entries_from n boxes) ≤ length boxes
entries_few n [] = omega arith
entries_few n (None ∷ xs) = omega (arith, entries_few (n + 1) xs)
entries_few n (Some v ∷ xs) = omega (arith, entries_few (n + 1) xs)

-- no more slots are present than the list has places
pub counted_few : (boxes : List (Option Bounds)) → len (map_of boxes) ≤ length boxes
counted_few boxes =
    let e : len (map_of boxes) ≡ length (entries_from 0 boxes) = len-entries (map_of boxes) ∙ ap length (entries_of_map boxes) in
    omega (arith, e, entries_few 0 boxes)

-- how a change of one slot changes their number
pub one_more : (bodies : FinMap nat_cmp Bounds) (s : ℕ) (b : Bounds) → contains_key bodies s ≡ false → len (insert bodies s b) ≡ len bodies + 1
one_more bodies s b h = len-insert nat_cmp_total bodies s b ∙ ap (λ t. cond t (len bodies) (len bodies + 1)) h

pub as_before : (bodies : FinMap nat_cmp Bounds) (s : ℕ) (b : Bounds) → contains_key bodies s ≡ true → len (insert bodies s b) ≡ len bodies
as_before bodies s b h = len-insert nat_cmp_total bodies s b ∙ ap (λ t. cond t (len bodies) (len bodies + 1)) h

pub one_fewer : (bodies : FinMap nat_cmp Bounds) (s : ℕ) → contains_key bodies s ≡ true → len (remove bodies s) ≡ len bodies - 1
one_fewer bodies s h = len-remove nat_cmp_total bodies s ∙ ap (λ t. cond t (len bodies - 1) (len bodies)) h

pub some_there : (bodies : FinMap nat_cmp Bounds) (s : ℕ) → contains_key bodies s ≡ true → 1 ≤ len bodies
some_there bodies s h = elim (len bodies) as (λ n. len bodies ≡ n → 1 ≤ n) [
  | zero ↦ λ e. absurd (true≢false (sym h ∙ ap (λ m. contains_key m s) (empty_of_len bodies e) ∙ ap is_some (get-empty nat_cmp s)))
  | suc n ↦ λ e. omega arith
] refl
