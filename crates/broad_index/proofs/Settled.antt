-- What a sort and a `dedup` leave.
use Rattle.std.proofs.Common.{◌≡◌, ℕ, ◌<◌, Bool, true, false, cond, ◌&&◌, ◌||◌, ◌==◌, nat_lt, List, [], ◌∷◌, refl, sym, ap, ◌∙◌, arith, inl, inr}
use lib.Dec.{eqb}
use Rattle.std.specs.List.{list_all, list_any, dedup, dedup_from, AllByRecursion}
use Rattle.std.specs.List.Sorted.{IsPermutation, IsSorted, IsStrictlySortedBy}
use Rattle.std.specs.Ordering.{nat_cmp, eq_by_cmp}
use Rattle.std.specs.declared.cmp.Ordering.{Ordering}
use Rattle.std.specs.declared.cmp.Ordering.TheVariants.{Less}
use Rattle.std.specs.Cmp.{IsTotalOrder, ranked}
use Rattle.std.specs.Cmp.Derive.{both_true}
use Rattle.std.proofs.lemmas.Bool.{cases_Bool}
use Rattle.std.proofs.lemmas.Bool.Decides.{nat_tests}
use Rattle.std.proofs.lemmas.Cmp.{nat_cmp_total, on_total, then_total}
use Rattle.std.proofs.lemmas.List.Kept.{IsStrictlySortedBy-dedup}
use Rattle.std.proofs.lemmas.List.Sorted.{list_any-IsPermutation}
use Rattle.broad_index.specs.declared.pair.Pair.{Pair}
use Rattle.slot_lists.specs.Rising.{rises_by}
use Rattle.broad_index.specs.Near.{precedes, rises}
use Rattle.broad_index.specs.PairOrder.{pair_cmp}
use Rattle.broad_index.specs.Members.{same_pair, slots_rise}
use Rattle.fixed_box.proofs.Numbers.{eq_cmp}
use Rattle.broad_index.specs.PairLaws.{pair_ties, less_precedes}

or_twice : (a b : Bool) → (a || b) ≡ (a || (a || b))
or_twice true b = refl
or_twice false b = refl

module _ {X : Type 0} (same : X → X → Bool) (means : (x y : X) → same x y ≡ true → x ≡ y) (test : X → Bool) where
  any_from : (k : X) (xs : List X) → list_any test (dedup_from same k xs) ≡ (test k || list_any test xs)
  any_from k [] = refl
  any_from k (x ∷ xs) =
      elim (cases_Bool (same x k)) as
      (λ _. list_any test (cond (same x k) (dedup_from same k xs) (k ∷ dedup_from same x xs)) ≡ (test k || (test x || list_any test xs))) [
        | inl t ↦
            ap (λ b. list_any test (cond b (dedup_from same k xs) (k ∷ dedup_from same x xs))) t ∙ any_from k xs ∙ or_twice (test k) (list_any test xs)
            ∙ ap (λ z. test k || (test z || list_any test xs)) (sym (means x k t))
        | inr f ↦ ap (λ b. list_any test (cond b (dedup_from same k xs) (k ∷ dedup_from same x xs))) f ∙ ap (λ b. test k || b) (any_from x xs)
      ]

  any_dedup : (xs : List X) → list_any test (dedup same xs) ≡ list_any test xs
  any_dedup [] = refl
  any_dedup (x ∷ xs) = any_from x xs

  pub any_settled : (xs ys : List X) → IsPermutation xs ys → list_any test (dedup same ys) ≡ list_any test xs
  any_settled xs ys moved = any_dedup ys ∙ sym (list_any-IsPermutation test xs ys moved)

module _ {X : Type 0} (R : X → X → Ordering) (lt : X → X → Bool) (less : (x y : X) → R x y ≡ Less → lt x y ≡ true) where
  all_after : (x : X) (xs : List X) → AllByRecursion (λ y. R x y ≡ Less) xs → list_all (lt x) xs ≡ true
  all_after x [] h = refl
  all_after x (y ∷ ys) h = both_true (less x y h.0) (all_after x ys h.1)

  rises_from : (xs : List X) → IsStrictlySortedBy R xs → rises_by lt xs ≡ true
  unfolding IsStrictlySortedBy
  rises_from [] h = refl
  rises_from (x ∷ xs) h = both_true (all_after x xs h.0) (rises_from xs h.1)

  pub rises_settled : (o : IsTotalOrder R) (same : X → X → Bool) → ((x y : X) → same x y ≡ eq_by_cmp R x y) → (xs : List X) → IsSorted R xs
      → rises_by lt (dedup same xs) ≡ true
  rises_settled o same ties xs sorted = rises_from (dedup same xs) (IsStrictlySortedBy-dedup o ties xs sorted)

nat_less : (x y : ℕ) → nat_cmp x y ≡ Less → nat_lt x y ≡ true
nat_less x y e = let l : x < y = ranked x y Less (sym e) in grind (arith, nat_tests)

pub slots_settled : (xs : List ℕ) → IsSorted nat_cmp xs → slots_rise (dedup eqb xs) ≡ true
slots_settled xs sorted = rises_settled nat_cmp nat_lt nat_less nat_cmp_total eqb (λ x y. sym (eq_cmp x y)) xs sorted

-- Pairs are compared field by field, as they are declared: first by `b`.
abbrev pub declared_same : Pair → Pair → Bool
declared_same p q = p.b == q.b && p.a == q.a

and_turned : (s t : Bool) → (s && t) ≡ (t && s)
and_turned true true = refl
and_turned true false = refl
and_turned false true = refl
and_turned false false = refl

pub same_either_way : declared_same ≡ same_pair
same_either_way = λ i p q. and_turned (p.b == q.b) (p.a == q.a) i

pub pairs_settled : (xs : List Pair) → IsSorted pair_cmp xs → rises (dedup same_pair xs) ≡ true
pairs_settled xs sorted =
    rises_settled pair_cmp precedes less_precedes (then_total (on_total (λ p. p.a) nat_cmp_total) (on_total (λ p. p.b) nat_cmp_total)) same_pair pair_ties
    xs sorted
