-- Serves proofs alone: what std's sorts give is the list put in order, in std's words for a sorted list, and back.
use Rattle.std.proofs.Common.{◌≡◌, ℕ, zero, suc, ◌+◌, ◌<◌, ◌≤◌, refl, sym, ap, subst, ◌∙◌, Bool, true, false, cond, not, ◌&&◌, List, [], ◌∷◌}
use Rattle.std.proofs.Common.{filter, length, take, get_or, arith, add-one, inl, inr}
use Rattle.std.specs.List.{All, AllByRecursion, Contains}
use Rattle.std.specs.List.Sorted.{IsPermutation, IsSorted, IsStable, ties}
use Rattle.std.specs.declared.cmp.Ordering.{Ordering}
use Rattle.std.specs.declared.cmp.Ordering.TheVariants.{Less, Equal, Greater}
use Rattle.std.specs.Ordering.{is_lt, is_gt, is_eq}
use Rattle.std.specs.Cmp.{IsTotalOrder}
use Rattle.std.proofs.lemmas.Bool.{cases_Bool}
use Rattle.std.proofs.lemmas.List.Sorted.{sorted_far, ranks_by, All-permutation, IsPermutation-trans, sum_by-IsPermutation}
use Rattle.std.proofs.lemmas.List.Elements.{recursion_from_All, All-from_recursion, All-contains_itself}
use Rattle.std.proofs.lemmas.List.Sums.{length-filter}
use Rattle.ordered_lists.specs.Ordered.{ordered_by, TiesAreOne, IsFront}
use Rattle.ordered_lists.specs.Ascending.{Ascends, flipped, one_order, equal_is}
use Rattle.ordered_lists.specs.OrderedLaws.{ordered_ascends, ordered_ties, ordered_moves}

-- what holds at each place holds of all
recursion_from_far : {X : Type 0} (P : X → Type 0) (xs : List X) → ((j : ℕ) (d : X) → j < length xs → P (get_or xs j d)) → AllByRecursion P xs
recursion_from_far P [] h = tt
recursion_from_far P (x ∷ xs) h = (h 0 x (omega arith), recursion_from_far P xs (λ j d l. h (suc j) d (omega arith)))

-- of those that pass a test, the test holds besides
passing : {X : Type 0} (P : X → Type 0) (p : X → Bool) (xs : List X) → AllByRecursion P xs → AllByRecursion (λ x. P x × (p x ≡ true)) (filter p xs)
passing P p [] h = tt
passing P p (x ∷ xs) h = elim (cases_Bool (p x)) as (λ _. AllByRecursion (λ x. P x × (p x ≡ true)) (cond (p x) (x ∷ filter p xs) (filter p xs))) [
  | inl e ↦ subst (λ t. AllByRecursion (λ x. P x × (p x ≡ true)) (cond t (x ∷ filter p xs) (filter p xs))) (sym e) ((h.0, e), passing P p xs h.1)
  | inr e ↦ subst (λ t. AllByRecursion (λ x. P x × (p x ≡ true)) (cond t (x ∷ filter p xs) (filter p xs))) (sym e) (passing P p xs h.1)
]

-- members that are all one, as many in one list as in the other
one_length : {X : Type 0} (P : X → Type 0) → ((x y : X) → P x → P y → x ≡ y) → (xs ys : List X) → AllByRecursion P xs → AllByRecursion P ys
    → length xs ≡ length ys → xs ≡ ys
one_length P same [] [] h g e = refl
one_length P same [] (y ∷ ys) h g e = absurd (omega arith)
one_length P same (x ∷ xs) [] h g e = absurd (omega arith)
one_length P same (x ∷ xs) (y ∷ ys) h g e =
    let rest : length xs ≡ length ys = omega arith in
    λ i. same x y h.0 g.0 i ∷ one_length P same xs ys h.1 g.1 rest i

not_less_nor_greater : (r : Ordering) → (not (is_lt r) && not (is_gt r)) ≡ is_eq r
not_less_nor_greater Less = refl
not_less_nor_greater Equal = refl
not_less_nor_greater Greater = refl

ascends_at : {X : Type 0} (cmp : X → X → Ordering) (xs : List X) → Ascends cmp xs → (k : ℕ) (d : X) → k + 1 < length xs
    → is_lt (cmp (get_or xs (k + 1) d) (get_or xs k d)) ≡ false
ascends_at cmp [] h k d l = absurd (omega arith)
ascends_at cmp (x ∷ xs) h zero d l = All-from_recursion (λ y. is_lt (cmp y x) ≡ false) xs h.0 0 d (omega arith)
ascends_at cmp (x ∷ xs) h (suc k) d l = rw add-one (rw add-one at (ascends_at cmp xs h.1 k d (omega arith)))

module _ {X : Type 0} (cmp : X → X → Ordering) (o : IsTotalOrder cmp) where
  from_far : (ys : List X) → ((i j : ℕ) (d : X) → i ≤ j → j < length ys → is_lt (cmp (get_or ys j d) (get_or ys i d)) ≡ false) → Ascends cmp ys
  from_far [] h = tt
  from_far (y ∷ ys) h = (
    recursion_from_far (λ w. is_lt (cmp w y) ≡ false) ys (λ j d l. h 0 (suc j) d (omega arith) (omega arith)),
    from_far ys (λ i j d l k. h (suc i) (suc j) d (omega arith) (omega arith)),
  )

  pub sorted_ascends : (ys : List X) → IsSorted cmp ys → Ascends cmp ys
  sorted_ascends ys h = from_far ys (sorted_far (λ x y. is_lt (cmp x y)) (ranks_by o (λ x. x)) ys h)

  tie_is : (x y : X) → ties (λ x y. is_lt (cmp x y)) x y ≡ is_eq (cmp x y)
  tie_is x y = ap (λ b. not (is_lt (cmp x y)) && not b) (flipped cmp o x y) ∙ not_less_nor_greater (cmp x y)

  -- A list put in order is sorted,
  pub ordered_sorted : (xs : List X) → IsSorted cmp (ordered_by cmp xs)
  ordered_sorted xs k d _ l = ascends_at cmp (ordered_by cmp xs) (ordered_ascends cmp o xs) k d l

  -- and stably so.
  pub ordered_stable : (xs : List X) → IsStable cmp xs (ordered_by cmp xs)
  ordered_stable xs x = (λ i. filter (λ w. tie_is x w i) (ordered_by cmp xs)) ∙ ordered_ties cmp o x xs ∙ sym (λ i. filter (λ w. tie_is x w i) xs)

  -- Nothing else is: a stable sort puts a list in order.
  pub stably_ordered : (xs ys : List X) → IsSorted cmp ys → IsStable cmp xs ys → ys ≡ ordered_by cmp xs
  stably_ordered xs ys sorted stable =
      one_order cmp o ys (ordered_by cmp xs) (sorted_ascends ys sorted) (ordered_ascends cmp o xs)
      (λ x. (λ i. filter (λ w. sym (tie_is x w) i) ys) ∙ stable x ∙ (λ i. filter (λ w. tie_is x w i) xs) ∙ sym (ordered_ties cmp o x xs))

  -- Any rising list of the same members is the list put in order where those that tie are one.
  pub only_ascending : (xs ys : List X) → TiesAreOne cmp xs → IsPermutation xs ys → Ascends cmp ys → ys ≡ ordered_by cmp xs
  only_ascending xs ys exact moved rises =
      let P : X → Type 0 = Contains xs in
      let all : All P xs = All-contains_itself xs in
      one_order cmp o ys (ordered_by cmp xs) rises (ordered_ascends cmp o xs)
      (λ x. one_length (λ w. P w × (is_eq (cmp x w) ≡ true))
      (λ y z h g. exact y z h.0 g.0 (sym (o.congr x y z (equal_is (cmp x y) h.1)) ∙ equal_is (cmp x z) g.1))
      (filter (λ w. is_eq (cmp x w)) ys) (filter (λ w. is_eq (cmp x w)) xs)
      (passing P (λ w. is_eq (cmp x w)) ys (recursion_from_All P ys (All-permutation P xs ys moved all)))
      (passing P (λ w. is_eq (cmp x w)) xs (recursion_from_All P xs all))
      (length-filter (λ w. is_eq (cmp x w)) ys ∙ sum_by-IsPermutation (λ w. cond (is_eq (cmp x w)) 1 0) xs ys moved
      ∙ sym (length-filter (λ w. is_eq (cmp x w)) xs))
      ∙ sym (ordered_ties cmp o x xs))

  -- So any sort puts it in order,
  pub only_sorted : (xs ys : List X) → TiesAreOne cmp xs → IsPermutation xs ys → IsSorted cmp ys → ys ≡ ordered_by cmp xs
  only_sorted xs ys exact moved sorted = only_ascending xs ys exact moved (sorted_ascends ys sorted)

  -- and how the list stood before doesn't matter.
  pub only_members : (xs ys : List X) → TiesAreOne cmp xs → IsPermutation xs ys → ordered_by cmp ys ≡ ordered_by cmp xs
  only_members xs ys exact moved =
      only_ascending xs (ordered_by cmp ys) exact (IsPermutation-trans xs ys (ordered_by cmp ys) moved (ordered_moves cmp ys)) (ordered_ascends cmp o ys)

-- The first so many in a rising order are those of the list put in order where members that tie are one.
pub front_is : {X : Type 0} (cmp : X → X → Ordering) → IsTotalOrder cmp → (want : ℕ) (xs front : List X) → IsFront cmp want xs front → TiesAreOne cmp xs
    → front ≡ take want (ordered_by cmp xs)
front_is cmp o want xs front f exact = f.first ∙ ap (take want) (only_sorted cmp o xs f.all exact f.members f.rising)

-- A sorted list's first so many are such a front.
pub sorted_front : {X : Type 0} (cmp : X → X → Ordering) (want : ℕ) (xs ys : List X) → IsPermutation xs ys → IsSorted cmp ys
    → IsFront cmp want xs (take want ys)
sorted_front cmp want xs ys moved sorted = record { all = ys; members = moved; rising = sorted; first = refl }

pub ascends_sorted : {X : Type 0} (cmp : X → X → Ordering) (xs : List X) → Ascends cmp xs → IsSorted cmp xs
ascends_sorted cmp xs h k d _ l = ascends_at cmp xs h k d l
