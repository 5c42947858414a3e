-- A slot's partners among candidates.
use Rattle.std.proofs.Common.{◌≡◌, ℕ, ◌<◌, Bool, true, false, cond, not, ◌&&◌, ◌||◌, ◌==◌, nat_lt, refl, sym, ap, ◌∙◌, arith, inl, inr}
use Rattle.std.proofs.Common.{List, [], ◌∷◌, ◌++◌, map, Some, None}
use Rattle.std.specs.List.{cons_option, filter, filter_map}
use Rattle.std.proofs.lemmas.Bool.{and_parts, and_from, or_cases, false≢true}
use Rattle.std.proofs.lemmas.Bool.Decides.{nat_tests}
use Rattle.std.proofs.lemmas.List.Folds.{list_any-append}
use Rattle.std.specs.Ordering.{nat_cmp}
use Rattle.std.specs.FinMap.{FinMap, get}
use Rattle.fixed_box.specs.Bounds.{Bounds, meets}
use Rattle.broad_index.specs.declared.pair.Pair.{Pair}
use Rattle.broad_index.specs.Members.{has_pair, has_slot, both_meet}
use Rattle.broad_index.specs.Touched.{ordered, ordered_pairs}
use Rattle.hier_grid.specs.Search.{meets_at, is_partner, AreReached, IsSound}
use Rattle.hier_grid.proofs.PairLemmas.{sound_more, found_more}
use Rattle.grid_cells.specs.SlotLaws.{has_filtered, more_right}

any_partner : (bodies : FinMap nat_cmp Bounds) (slot : ℕ) (body : Bounds) (any : Bool) (q : ℕ) → is_partner bodies slot body any q ≡ true
    → is_partner bodies slot body true q ≡ true
any_partner bodies slot body any q h =
    let r = and_parts (not (q == slot) && (any || nat_lt slot q)) (meets_at bodies body q) h in
    let other = and_parts (not (q == slot)) (any || nat_lt slot q) r.0 in
    and_from (not (q == slot) && true) (meets_at bodies body q) (and_from (not (q == slot)) true other.0 refl) r.1

-- those that are appended are partners
pub reached_more : (bodies : FinMap nat_cmp Bounds) (slot : ℕ) (body : Bounds) (any : Bool) (slots old : List ℕ) → AreReached bodies slot body old
    → AreReached bodies slot body (old ++ filter (is_partner bodies slot body any) slots)
reached_more bodies slot body any slots old right q h =
    let new = filter (is_partner bodies slot body any) slots in
    elim (or_cases (has_slot old q) (has_slot new q) (sym (list_any-append (λ x. q == x) old new) ∙ h)) as (λ _. is_partner bodies slot body true q ≡ true) [
      | inl e ↦ right q e
      | inr e ↦ any_partner bodies slot body any q
          (and_parts (has_slot slots q) (is_partner bodies slot body any q) (sym (has_filtered (is_partner bodies slot body any) slots q) ∙ e)).1
    ]

-- a partner among the candidates is appended
pub partner_in : (bodies : FinMap nat_cmp Bounds) (slot : ℕ) (body : Bounds) (any : Bool) (slots old : List ℕ) (q : ℕ) (b : Bounds) → get bodies q ≡ Some b
    → meets body b ≡ true → not (q == slot) ≡ true → (any || nat_lt slot q) ≡ true → has_slot slots q ≡ true
    → has_slot (old ++ filter (is_partner bodies slot body any) slots) q ≡ true
partner_in bodies slot body any slots old q b e m other due h =
    let p = is_partner bodies slot body any in
    let t : p q ≡ true = and_from (not (q == slot) && (any || nat_lt slot q)) (meets_at bodies body q)
    (and_from (not (q == slot)) (any || nat_lt slot q) other due) (ap (both_meet (Some body)) e ∙ m) in
    more_right old (filter p slots) q (has_filtered p slots q ∙ and_from (has_slot slots q) (p q) h t)

pub higher : (s q : ℕ) → s < q → (false || nat_lt s q) ≡ true
higher s q lt = grind (arith, nat_tests)

-- a pair is made of each that passes a test
pub made_pairs : {X : Type 0} (test : X → Bool) (made : X → Pair) (xs : List X)
    → filter_map (λ x. cond (test x) (Some (made x)) None) xs ≡ map made (filter test xs)
made_pairs test made [] = refl
made_pairs test made (x ∷ xs) = elim (test x) as
    (λ t. cons_option (cond t (Some (made x)) None) (filter_map (λ y. cond (test y) (Some (made y)) None) xs)
    ≡ map made (cond t (x ∷ filter test xs) (filter test xs))) [
      | true ↦ ap (λ ps. made x ∷ ps) (made_pairs test made xs)
      | false ↦ made_pairs test made xs
    ]

-- ---- a slot's pairs with its partners among candidates
abbrev pub found_pairs : FinMap nat_cmp Bounds → ℕ → Bounds → Bool → List ℕ → List Pair
found_pairs bodies slot body any slots = ordered_pairs slot (filter (is_partner bodies slot body any) slots)

pub sound_pairs : (bodies : FinMap nat_cmp Bounds) (slot : ℕ) (body : Bounds) (any : Bool) (slots : List ℕ) (old : List Pair) → get bodies slot ≡ Some body
    → IsSound bodies old → IsSound bodies (old ++ found_pairs bodies slot body any slots)
sound_pairs bodies slot body any slots old own s =
    sound_more bodies slot body (filter (is_partner bodies slot body any) slots) old own
    (reached_more bodies slot body any slots [] (λ q h. absurd (false≢true h))) s

pub pair_in : (bodies : FinMap nat_cmp Bounds) (slot : ℕ) (body : Bounds) (any : Bool) (slots : List ℕ) (old : List Pair) (q : ℕ) (b : Bounds)
    → get bodies q ≡ Some b → meets body b ≡ true → not (q == slot) ≡ true → (any || nat_lt slot q) ≡ true → has_slot slots q ≡ true
    → has_pair (old ++ found_pairs bodies slot body any slots) (ordered slot q) ≡ true
pair_in bodies slot body any slots old q b e m other due h =
    found_more slot q (filter (is_partner bodies slot body any) slots) old (partner_in bodies slot body any slots [] q b e m other due h)
