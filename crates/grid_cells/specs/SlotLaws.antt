-- Serves proofs alone: slots in lists, what joining, filtering and visits of cells put into a list of slots.
use Rattle.std.proofs.Common.{◌≡◌, ℕ, ◌<◌, Bool, true, false, cond, ◌&&◌, ◌||◌, ◌==◌, List, [], ◌∷◌, ◌++◌, refl, sym, ap}
use Rattle.std.proofs.Common.{◌∙◌, arith, zero, suc, length, get_or}
use Rattle.std.specs.List.{filter}
use Rattle.std.proofs.lemmas.Bool.Decides.{nat_tests}
use Rattle.std.proofs.lemmas.List.Folds.{list_any-append}
use Rattle.broad_index.specs.Members.{has_slot}
use Rattle.cell_table.specs.Cells.{has}

pub more_left : (old more : List ℕ) (q : ℕ) → has_slot old q ≡ true → has_slot (old ++ more) q ≡ true
more_left old more q h = list_any-append (λ x. q == x) old more ∙ ap (λ b. b || has_slot more q) h

pub more_right : (old more : List ℕ) (q : ℕ) → has_slot more q ≡ true → has_slot (old ++ more) q ≡ true
more_right old more q h = list_any-append (λ x. q == x) old more ∙ ap (λ b. has_slot old q || b) h ∙ or_true (has_slot old q)
  where
    or_true : (b : Bool) → (b || true) ≡ true
    or_true true = refl
    or_true false = refl

-- what stands at a place of a list is in it
pub has_at : (xs : List ℕ) (k : ℕ) → k < length xs → has_slot xs (get_or xs k 0) ≡ true
has_at [] k l = absurd (omega arith)
has_at (x ∷ xs) zero l = let here : (x == x) ≡ true = grind (arith, nat_tests) in ap (λ b. b || has_slot xs x) here
has_at (x ∷ xs) (suc k) l = ap (λ b. (get_or xs k 0 == x) || b) (has_at xs k (omega arith)) ∙ or_true (get_or xs k 0 == x)
  where
    or_true : (b : Bool) → (b || true) ≡ true
    or_true true = refl
    or_true false = refl

-- what a filter leaves
pub has_filtered : (p : ℕ → Bool) (xs : List ℕ) (k : ℕ) → has_slot (filter p xs) k ≡ (has_slot xs k && p k)
has_filtered p [] k = refl
has_filtered p (x ∷ xs) k = elim (k == x) as (λ b. (k == x) ≡ b → has_slot (cond (p x) (x ∷ filter p xs) (filter p xs)) k ≡ ((b || has_slot xs k) && p k)) [
  | true ↦ λ e.
      let at : x ≡ k = grind (arith, nat_tests) in
      let same : p x ≡ p k = ap p at in
      elim (p x) as (λ c. c ≡ p k → has_slot (cond c (x ∷ filter p xs) (filter p xs)) k ≡ p k) [
        | true ↦ λ q. ap (λ b. b || has_slot (filter p xs) k) e ∙ q
        | false ↦ λ q. has_filtered p xs k ∙ ap (λ b. has_slot xs k && b) (sym q) ∙ and_false (has_slot xs k) ∙ q
      ] same
  | false ↦ λ e. elim (p x) as (λ c. has_slot (cond c (x ∷ filter p xs) (filter p xs)) k ≡ (has_slot xs k && p k)) [
    | true ↦ ap (λ b. b || has_slot (filter p xs) k) e ∙ has_filtered p xs k
    | false ↦ has_filtered p xs k
  ]
] refl
  where
    and_false : (b : Bool) → (b && false) ≡ false
    and_false true = refl
    and_false false = refl

-- those of some slots that pass a test, where all that pass it are among them
pub all_among : (p : ℕ → Bool) (slots : List ℕ) → ((q : ℕ) → p q ≡ true → has_slot slots q ≡ true) → (q : ℕ) → has_slot (filter p slots) q ≡ p q
all_among p slots h q = has_filtered p slots q ∙ elim (p q) as (λ b. (b ≡ true → has_slot slots q ≡ true) → (has_slot slots q && b) ≡ b) [
  | true ↦ λ t. ap (λ b. b && true) (t refl)
  | false ↦ λ _. none (has_slot slots q)
] (h q)
  where
    none : (b : Bool) → (b && false) ≡ false
    none true = refl
    none false = refl

-- the two tables' words for one thing
pub has_slot_is : (xs : List ℕ) (q : ℕ) → has xs q ≡ has_slot xs q
has_slot_is [] q = refl
has_slot_is (x ∷ xs) q = let t : (x == q) ≡ (q == x) = grind (arith, nat_tests) in ap (λ b. b || has xs q) t ∙ ap (λ b. (q == x) || b) (has_slot_is xs q)
