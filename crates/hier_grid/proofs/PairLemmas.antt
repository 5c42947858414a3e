-- Each pair of boxes that meet is found from one of its slots, and nothing else is.
use Rattle.std.proofs.Common.{◌≡◌, ◌⊎◌, ℕ, ◌<◌, Bool, true, false, cond, not, ◌&&◌, ◌||◌, ◌==◌, nat_lt, List, [], ◌∷◌, ◌++◌, map, Option, None}
use Rattle.std.proofs.Common.{Some, refl, sym, ap, ◌∙◌, arith, inl, inr}
use Rattle.std.proofs.lemmas.Bool.{and_parts, and_from, or_left, or_cases, false≢true}
use Rattle.std.proofs.lemmas.Bool.Decides.{nat_tests}
use Rattle.std.proofs.lemmas.List.Folds.{list_any-append}
use Rattle.std.specs.Ordering.{nat_cmp}
use Rattle.std.specs.FinMap.{FinMap, get}
use Rattle.fixed_box.specs.Bounds.{Bounds, meets}
use Rattle.broad_index.specs.declared.pair.Pair.{Pair}
use Rattle.broad_index.specs.Members.{has_pair, has_slot, same_pair, both_meet, is_near}
use Rattle.broad_index.specs.Touched.{ordered, ordered_pairs}
use Rattle.cell_table.specs.declared.cell_key.CellKey.{CellKey}
use Rattle.hier_grid.specs.Search.{meets_at, is_partner, AreReached, IsDue, IsSound, HasPairs, FindsAll, FindsFor}
use Rattle.grid_cells.specs.CellLaws.{cell_order}
use Rattle.broad_index.specs.PairLaws.{is_same, self_same}
use Rattle.fixed_box.proofs.Bools.{or_true, same_bool}
use Rattle.fixed_box.proofs.BoxLaws.{meets_either_way}

both_turned : (o : Option Bounds) (body : Bounds) → both_meet (Some body) o ≡ both_meet o (Some body)
both_turned None body = refl
both_turned (Some b) body = meets_either_way body b

-- ---- what is added
pub more_pairs : (old more : List Pair) → HasPairs old (old ++ more)
more_pairs old more p h = list_any-append (same_pair p) old more ∙ ap (λ b. b || has_pair more p) h

partner_near : (bodies : FinMap nat_cmp Bounds) (slot : ℕ) (body : Bounds) (any : Bool) (q : ℕ) → get bodies slot ≡ Some body
    → is_partner bodies slot body any q ≡ true → is_near bodies (ordered slot q) ≡ true
partner_near bodies slot body any q own h =
    let r = and_parts (not (q == slot) && (any || nat_lt slot q)) (meets_at bodies body q) h in
    let other : not (q == slot) ≡ true = (and_parts (not (q == slot)) (any || nat_lt slot q) r.0).0 in
    elim (nat_lt slot q) as (λ b. nat_lt slot q ≡ b → is_near bodies (cond b (record { a = slot; b = q }) (record { a = q; b = slot })) ≡ true) [
      | true ↦ λ t. and_from (nat_lt slot q) (both_meet (get bodies slot) (get bodies q)) t (ap (λ o. both_meet o (get bodies q)) own ∙ r.1)
      | false ↦ λ f.
          let below : nat_lt q slot ≡ true = after slot q other f in
          and_from (nat_lt q slot) (both_meet (get bodies q) (get bodies slot)) below
          (ap (both_meet (get bodies q)) own ∙ sym (both_turned (get bodies q) body) ∙ r.1)
    ] refl
  where
    after : (s k : ℕ) → not (k == s) ≡ true → nat_lt s k ≡ false → nat_lt k s ≡ true
    after s k n f = grind (arith, nat_tests)

sound_each : (bodies : FinMap nat_cmp Bounds) (slot : ℕ) (xs : List ℕ) → ((q : ℕ) → has_slot xs q ≡ true → is_near bodies (ordered slot q) ≡ true)
    → IsSound bodies (map (ordered slot) xs)
sound_each bodies slot [] h p i = absurd (false≢true i)
sound_each bodies slot (x ∷ xs) h p i = elim (or_cases (same_pair p (ordered slot x)) (has_pair (map (ordered slot) xs) p) i) as
    (λ _. is_near bodies p ≡ true) [
      | inl e ↦
          let here : (x == x) ≡ true = grind (arith, nat_tests) in
          ap (is_near bodies) (is_same p (ordered slot x) e) ∙ h x (or_left (x == x) (has_slot xs x) here)
      | inr e ↦ sound_each bodies slot xs (λ q j. h q (ap (λ b. (q == x) || b) j ∙ or_true (q == x))) p e
    ]

pub sound_more : (bodies : FinMap nat_cmp Bounds) (slot : ℕ) (body : Bounds) (slots : List ℕ) (old : List Pair) → get bodies slot ≡ Some body
    → AreReached bodies slot body slots → IsSound bodies old → IsSound bodies (old ++ ordered_pairs slot slots)
sound_more bodies slot body slots old own right s p h =
    elim (or_cases (has_pair old p) (has_pair (ordered_pairs slot slots) p) (sym (list_any-append (same_pair p) old (ordered_pairs slot slots)) ∙ h)) as
    (λ _. is_near bodies p ≡ true) [
      | inl e ↦ s p e
      | inr e ↦ sound_each bodies slot slots (λ q i. partner_near bodies slot body true q own (right q i)) p e
    ]

found_each : (slot q : ℕ) (xs : List ℕ) → has_slot xs q ≡ true → has_pair (map (ordered slot) xs) (ordered slot q) ≡ true
found_each slot q [] h = absurd (false≢true h)
found_each slot q (x ∷ xs) h = elim (or_cases (q == x) (has_slot xs q) h) as (λ _. has_pair (map (ordered slot) (x ∷ xs)) (ordered slot q) ≡ true) [
  | inl e ↦
      let at : q ≡ x = grind (arith, nat_tests) in
      or_left (same_pair (ordered slot q) (ordered slot x)) (has_pair (map (ordered slot) xs) (ordered slot q))
      (ap (λ z. same_pair (ordered slot q) (ordered slot z)) (sym at) ∙ self_same (ordered slot q))
  | inr e ↦ ap (λ b. same_pair (ordered slot q) (ordered slot x) || b) (found_each slot q xs e) ∙ or_true (same_pair (ordered slot q) (ordered slot x))
]

pub found_more : (slot q : ℕ) (slots : List ℕ) (old : List Pair) → has_slot slots q ≡ true → has_pair (old ++ ordered_pairs slot slots) (ordered slot q) ≡ true
found_more slot q slots old h =
    list_any-append (same_pair (ordered slot q)) old (ordered_pairs slot slots) ∙ ap (λ b. has_pair old (ordered slot q) || b) (found_each slot q slots h)
    ∙ or_true (has_pair old (ordered slot q))

record Two (bodies : FinMap nat_cmp Bounds) (p : Pair) : Type 0 where
  pub first : Bounds
  pub second : Bounds
  pub at_first : get bodies p.a ≡ Some first
  pub at_second : get bodies p.b ≡ Some second
  pub met : meets first second ≡ true

two_of : (bodies : FinMap nat_cmp Bounds) (p : Pair) (o r : Option Bounds) → get bodies p.a ≡ o → get bodies p.b ≡ r → both_meet o r ≡ true → Two bodies p
two_of bodies p None r e f h = absurd (false≢true h)
two_of bodies p (Some x) None e f h = absurd (false≢true h)
two_of bodies p (Some x) (Some y) e f h = record { first = x; second = y; at_first = e; at_second = f; met = h }

nat_order : (x y : ℕ) → (x < y) ⊎ ((x ≡ y) ⊎ (y < x))
nat_order x y = grind arith

-- of two slots one has to find their pair
one_due : (cell : Bounds → CellKey) (s q : ℕ) (x y : Bounds) → s < q → IsDue cell s x q y ⊎ IsDue cell q y s x
one_due cell s q x y lt = elim (nat_order (cell x).level (cell y).level) as (λ _. IsDue cell s x q y ⊎ IsDue cell q y s x) [
  | inl below ↦ inl (inr (inl below))
  | inr r ↦ elim r as (λ _. IsDue cell s x q y ⊎ IsDue cell q y s x) [
    | inr above ↦ inr (inr (inl above))
    | inl level ↦ elim (cell_order (cell y) (cell x) (sym level)) as (λ _. IsDue cell s x q y ⊎ IsDue cell q y s x) [
      | inl same ↦ inl (inl (same, lt))
      | inr o ↦ elim o as (λ _. IsDue cell s x q y ⊎ IsDue cell q y s x) [
        | inl later ↦ inl (inr (inr (sym level, later)))
        | inr sooner ↦ inr (inr (inr (level, sooner)))
      ]
    ]
  ]
]

pub all_found : (cell : Bounds → CellKey) (bodies : FinMap nat_cmp Bounds) (found : List Pair) → IsSound bodies found
    → ((s : ℕ) → FindsFor cell bodies s found) → FindsAll bodies found
all_found cell bodies found s c p = same_bool (has_pair found p) (is_near bodies p) (s p) (λ h.
    let r = and_parts (nat_lt p.a p.b) (both_meet (get bodies p.a) (get bodies p.b)) h in
    let t = two_of bodies p (get bodies p.a) (get bodies p.b) refl refl r.1 in
    elim (one_due cell p.a p.b t.first t.second (is_below p.a p.b r.0)) as (λ _. has_pair found p ≡ true) [
      | inl due ↦
          let at : ordered p.a p.b ≡ p = ap (λ b. cond b p (other p)) r.0 in
          ap (has_pair found) (sym at) ∙ c p.a t.first t.at_first p.b t.second t.at_second t.met (not_turned p.a p.b r.0) due
      | inr due ↦
          let at : ordered p.b p.a ≡ p = ap (λ b. cond b (other p) p) (not_back p.a p.b r.0) in
          ap (has_pair found) (sym at)
          ∙ c p.b t.second t.at_second p.a t.first t.at_first (meets_either_way t.second t.first ∙ t.met) (not_same p.a p.b r.0) due
    ])
  where
    other : Pair → Pair
    other p = record { a = p.b; b = p.a }

    is_below : (a b : ℕ) → nat_lt a b ≡ true → a < b
    is_below a b lt = grind (arith, nat_tests)

    not_back : (a b : ℕ) → nat_lt a b ≡ true → nat_lt b a ≡ false
    not_back a b lt = grind (arith, nat_tests)

    not_same : (a b : ℕ) → nat_lt a b ≡ true → not (a == b) ≡ true
    not_same a b lt = grind (arith, nat_tests)

    not_turned : (a b : ℕ) → nat_lt a b ≡ true → not (b == a) ≡ true
    not_turned a b lt = grind (arith, nat_tests)
