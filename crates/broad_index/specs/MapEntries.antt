-- Serves proofs alone: the entries of a map, each of which is what is looked up under its slot, and which rise by their slots.
use Rattle.std.proofs.Common.{◌≡◌, ℕ, suc, Bool, true, false, cond, ◌||◌, ◌==◌, nat_lt, List, [], ◌∷◌, Option, Some, refl, sym, ap, ◌∙◌, arith, inl, inr}
use Rattle.std.specs.Prelude.{is_some}
use Rattle.std.specs.List.{list_any, Contains}
use Rattle.std.specs.Ordering.{nat_cmp, is_lt, eq_by_cmp}
use Rattle.std.specs.Cmp.{first_so, second_so}
use Rattle.std.specs.FinMap.{FinMap, entries, entries_sorted, is_sorted, find, get, get-entries, contains_key-keys}
use Rattle.std.specs.FinMap.Entries.{below_all}
use Rattle.std.proofs.lemmas.Bool.{eqb-true, cases_Bool}
use Rattle.fixed_box.specs.Bounds.{Bounds}
use Rattle.slot_lists.specs.Rising.{rises_by}
use Rattle.slot_lists.specs.RisingLaws.{mapped_rise}
use Rattle.slot_lists.specs.SlotMapLaws.{tie_same, tie_other}
use Rattle.slot_lists.specs.Present.{present}
use Rattle.broad_index.specs.Members.{has_slot, slots_rise}
use Rattle.broad_index.specs.NearRises.{slot_lt, entries_rise}
use Rattle.fixed_box.proofs.Bools.{true_from}
use Rattle.fixed_box.proofs.Numbers.{lt_from, eq_cmp}

-- each entry is what is looked up under its slot
abbrev pub Looked : (ℕ → Option Bounds) → List (ℕ × Bounds) → Type 0
Looked look [] = Unit {0}
Looked look (e ∷ es) = (look e.0 ≡ Some e.1) × Looked look es

other_slot : (x y : ℕ) → is_lt (nat_cmp x y) ≡ true → eq_by_cmp nat_cmp y x ≡ false
other_slot x y h = tie_other y x (λ e. let l = lt_from x y h in absurd (omega arith))

looked_past : (look : ℕ → Option Bounds) (x : ℕ) (b : Bounds) (es : List (ℕ × Bounds)) → below_all nat_cmp x es ≡ true → Looked look es
    → Looked (λ k. cond (eq_by_cmp nat_cmp k x) (Some b) (look k)) es
looked_past look x b [] h l = tt
looked_past look x b (e ∷ es) h l =
    (ap (λ t. cond t (Some b) (look e.0)) (other_slot x e.0 (first_so _ _ h)) ∙ l.0, looked_past look x b es (second_so _ _ h) l.1)

looked_up : (es : List (ℕ × Bounds)) → is_sorted nat_cmp es ≡ true → Looked (λ k. find nat_cmp k es) es
looked_up [] h = tt
looked_up (e ∷ es) h = (
  ap (λ t. cond t (Some e.1) (find nat_cmp e.0 es)) (tie_same e.0 e.0 refl),
  looked_past (λ k. find nat_cmp k es) e.0 e.1 es (first_so _ _ h) (looked_up es (second_so _ _ h)),
)

relooked : (f g : ℕ → Option Bounds) → ((k : ℕ) → g k ≡ f k) → (es : List (ℕ × Bounds)) → Looked f es → Looked g es
relooked f g same [] l = tt
relooked f g same (e ∷ es) l = (same e.0 ∙ l.0, relooked f g same es l.1)

any_same : (p q : ℕ → Bool) → ((x : ℕ) → p x ≡ q x) → (xs : List ℕ) → list_any p xs ≡ list_any q xs
any_same p q h [] = refl
any_same p q h (x ∷ xs) = ap (λ b. b || list_any p xs) (h x) ∙ ap (λ b. q x || b) (any_same p q h xs)

entry_found : (es : List (ℕ × Bounds)) (k : ℕ) (b : Bounds) → find nat_cmp k es ≡ Some b → Contains es (k, b)
entry_found [] k b h = let no : ⊥ = cc in absurd no
entry_found (e ∷ es) k b h = elim (cases_Bool (k == e.0)) as (λ _. Contains (e ∷ es) (k, b)) [
  | inl t ↦
      let is : Some e.1 ≡ Some b = sym (ap (λ x. cond x (Some e.1) (find nat_cmp k es)) (eq_cmp k e.0 ∙ t)) ∙ h in
      let box : e.1 ≡ b = cc in
      let slot : e.0 ≡ k = sym (eqb-true k e.0 t) in
      (0, omega arith, λ i. (slot i, box i))
  | inr f ↦
      let c = entry_found es k b (sym (ap (λ x. cond x (Some e.1) (find nat_cmp k es)) (eq_cmp k e.0 ∙ f)) ∙ h) in
      (suc c.0, (let l = c.1 in omega arith), c.2)
]

module _ (bodies : FinMap nat_cmp Bounds) where
  pub sorted : is_sorted nat_cmp (entries bodies) ≡ true
  sorted = true_from _ (entries_sorted bodies)

  pub looked_in : Looked (get bodies) (entries bodies)
  looked_in = relooked (λ k. find nat_cmp k (entries bodies)) (get bodies) (get-entries bodies) (entries bodies) (looked_up (entries bodies) sorted)

  -- What is looked up is among the entries.
  pub entry_in : (k : ℕ) (b : Bounds) → get bodies k ≡ Some b → Contains (entries bodies) (k, b)
  entry_in k b h = entry_found (entries bodies) k b (sym (get-entries bodies k) ∙ h)

  pub entries_up : rises_by slot_lt (entries bodies) ≡ true
  entries_up = entries_rise (entries bodies) sorted

  pub slots_up : slots_rise (present bodies) ≡ true
  slots_up = mapped_rise slot_lt nat_lt (λ e. e.0) (λ e f lt. lt) (entries bodies) entries_up

  pub has_slots : (k : ℕ) → is_some (get bodies k) ≡ true → has_slot (present bodies) k ≡ true
  has_slots k h = sym (any_same (eq_by_cmp nat_cmp k) (λ x. k == x) (eq_cmp k) (present bodies)) ∙ sym (contains_key-keys bodies k) ∙ h
