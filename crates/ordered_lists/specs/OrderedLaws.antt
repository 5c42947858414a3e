-- Serves proofs alone: what holds of a list put in order, whatever its members and whichever the order.
use Rattle.std.proofs.Common.{◌≡◌, refl, sym, ap, subst, ◌∙◌, Bool, true, false, cond, List, [], ◌∷◌, filter, length, inl, inr}
use Rattle.std.specs.List.{AllByRecursion, Contains}
use Rattle.std.specs.List.Sorted.{IsPermutation}
use Rattle.std.specs.declared.cmp.Ordering.{Ordering}
use Rattle.std.specs.declared.cmp.Ordering.TheVariants.{Equal}
use Rattle.std.specs.Ordering.{is_lt, is_eq}
use Rattle.std.specs.Cmp.{IsTotalOrder}
use Rattle.std.proofs.lemmas.Bool.{cases_Bool}
use Rattle.std.proofs.lemmas.List.Sorted.{IsPermutation-refl, IsPermutation-cons, IsPermutation-trans, IsPermutation-middle, IsPermutation-sym}
use Rattle.std.proofs.lemmas.List.Sorted.{length_permutation}
use Rattle.std.proofs.lemmas.List.Sorted.{Contains-permutation}
use Rattle.ordered_lists.specs.Ordered.{placed, ordered_by}
use Rattle.ordered_lists.specs.Ascending.{Ascends, filtered_ascends, one_order, chain, not_back, equal_is, kept, left_out}

-- ---- the same members, whatever the order

placed_moves : {X : Type 0} (cmp : X → X → Ordering) (x : X) (ys : List X) → IsPermutation (x ∷ ys) (placed cmp x ys)
placed_moves cmp x [] = IsPermutation-refl (x ∷ [])
placed_moves cmp x (y ∷ ys) = elim (is_lt (cmp y x)) as (λ b. IsPermutation (x ∷ y ∷ ys) (cond b (y ∷ placed cmp x ys) (x ∷ y ∷ ys))) [
  | true ↦
      IsPermutation-trans (x ∷ y ∷ ys) (y ∷ x ∷ ys) (y ∷ placed cmp x ys) (IsPermutation-middle (x ∷ []) y ys)
      (IsPermutation-cons y (x ∷ ys) (placed cmp x ys) (placed_moves cmp x ys))
  | false ↦ IsPermutation-refl (x ∷ y ∷ ys)
]

-- A list put in order has the list's members, each as often.
pub ordered_moves : {X : Type 0} (cmp : X → X → Ordering) (xs : List X) → IsPermutation xs (ordered_by cmp xs)
ordered_moves cmp [] = IsPermutation-refl []
ordered_moves cmp (x ∷ xs) =
    IsPermutation-trans (x ∷ xs) (x ∷ ordered_by cmp xs) (placed cmp x (ordered_by cmp xs)) (IsPermutation-cons x xs (ordered_by cmp xs) (ordered_moves cmp xs))
    (placed_moves cmp x (ordered_by cmp xs))

pub length_ordered : {X : Type 0} (cmp : X → X → Ordering) (xs : List X) → length (ordered_by cmp xs) ≡ length xs
length_ordered cmp xs = length_permutation xs (ordered_by cmp xs) (ordered_moves cmp xs)

pub ordered_member : {X : Type 0} (cmp : X → X → Ordering) (xs : List X) (x : X) → Contains (ordered_by cmp xs) x → Contains xs x
ordered_member cmp xs x h = Contains-permutation (ordered_by cmp xs) xs x (IsPermutation-sym xs (ordered_by cmp xs) (ordered_moves cmp xs)) h

-- ---- rising, and ties as they stood

all_placed : {X : Type 0} (cmp : X → X → Ordering) (P : X → Type 0) (x : X) (ys : List X) → P x → AllByRecursion P ys → AllByRecursion P (placed cmp x ys)
all_placed cmp P x [] h all = (h, tt)
all_placed cmp P x (y ∷ ys) h all = elim (is_lt (cmp y x)) as (λ t. AllByRecursion P (cond t (y ∷ placed cmp x ys) (x ∷ y ∷ ys))) [
  | true ↦ (all.0, all_placed cmp P x ys h all.1)
  | false ↦ (h, all)
]

pub ordered_all : {X : Type 0} (cmp : X → X → Ordering) (P : X → Type 0) (xs : List X) → AllByRecursion P xs → AllByRecursion P (ordered_by cmp xs)
ordered_all cmp P [] all = tt
ordered_all cmp P (x ∷ xs) all = all_placed cmp P x (ordered_by cmp xs) all.0 (ordered_all cmp P xs all.1)

-- filters in either order
filter_swap : {X : Type 0} (p q : X → Bool) (xs : List X) → filter p (filter q xs) ≡ filter q (filter p xs)
filter_swap p q [] = refl
filter_swap p q (x ∷ xs) =
    let h : filter p (filter q xs) ≡ filter q (filter p xs) = filter_swap p q xs in
    elim (cases_Bool (p x)) as (λ _. filter p (filter q (x ∷ xs)) ≡ filter q (filter p (x ∷ xs))) [
      | inl s ↦ elim (cases_Bool (q x)) as (λ _. filter p (filter q (x ∷ xs)) ≡ filter q (filter p (x ∷ xs))) [
        | inl t ↦
            ap (filter p) (kept q x xs t) ∙ kept p x (filter q xs) s ∙ ap (λ l. x ∷ l) h
            ∙ sym (ap (filter q) (kept p x xs s) ∙ kept q x (filter p xs) t)
        | inr f ↦ ap (filter p) (left_out q x xs f) ∙ h ∙ sym (ap (filter q) (kept p x xs s) ∙ left_out q x (filter p xs) f)
      ]
      | inr e ↦ elim (cases_Bool (q x)) as (λ _. filter p (filter q (x ∷ xs)) ≡ filter q (filter p (x ∷ xs))) [
        | inl t ↦ ap (filter p) (kept q x xs t) ∙ left_out p x (filter q xs) e ∙ h ∙ sym (ap (filter q) (left_out p x xs e))
        | inr f ↦ ap (filter p) (left_out q x xs f) ∙ h ∙ sym (ap (filter q) (left_out p x xs e))
      ]
    ]

module _ {X : Type 0} (cmp : X → X → Ordering) (o : IsTotalOrder cmp) where
  all_above : (x y : X) (ys : List X) → is_lt (cmp y x) ≡ false → AllByRecursion (λ w. is_lt (cmp w y) ≡ false) ys
      → AllByRecursion (λ w. is_lt (cmp w x) ≡ false) ys
  all_above x y [] e h = tt
  all_above x y (w ∷ ws) e h = (chain cmp o x y w e h.0, all_above x y ws e h.1)

  placed_ascends : (x : X) (ys : List X) → Ascends cmp ys → Ascends cmp (placed cmp x ys)
  placed_ascends x [] h = (tt, tt)
  placed_ascends x (y ∷ ys) h = elim (cases_Bool (is_lt (cmp y x))) as (λ _. Ascends cmp (cond (is_lt (cmp y x)) (y ∷ placed cmp x ys) (x ∷ y ∷ ys))) [
    | inl e ↦ subst (λ t. Ascends cmp (cond t (y ∷ placed cmp x ys) (x ∷ y ∷ ys))) (sym e)
        (all_placed cmp (λ w. is_lt (cmp w y) ≡ false) x ys (not_back cmp o x y e) h.0, placed_ascends x ys h.1)
    | inr e ↦ subst (λ t. Ascends cmp (cond t (y ∷ placed cmp x ys) (x ∷ y ∷ ys))) (sym e)
        ((e, all_above x y ys e h.0), h)
  ]

  -- No member of a list put in order is less than an earlier one.
  pub ordered_ascends : (xs : List X) → Ascends cmp (ordered_by cmp xs)
  ordered_ascends [] = tt
  ordered_ascends (x ∷ xs) = placed_ascends x (ordered_by cmp xs) (ordered_ascends xs)

  -- a tie with both of two would make neither less
  no_tie : (w x y : X) → is_eq (cmp w x) ≡ true → is_lt (cmp y x) ≡ true → is_eq (cmp w y) ≡ false
  no_tie w x y e l = elim (cases_Bool (is_eq (cmp w y))) as (λ _. is_eq (cmp w y) ≡ false) [
    | inl t ↦
        let tie : cmp y x ≡ Equal = sym (o.congr w y x (equal_is (cmp w y) t)) ∙ equal_is (cmp w x) e in
        let clash : true ≡ false = sym l ∙ ap is_lt tie in let no : ⊥ = cc in absurd no
    | inr f ↦ f
  ]

  placed_ties : (w x : X) (ys : List X) → filter (λ v. is_eq (cmp w v)) (placed cmp x ys) ≡ filter (λ v. is_eq (cmp w v)) (x ∷ ys)
  placed_ties w x [] = refl
  placed_ties w x (y ∷ ys) =
      let p : X → Bool = λ v. is_eq (cmp w v) in
      elim (cases_Bool (is_lt (cmp y x))) as (λ _. filter p (cond (is_lt (cmp y x)) (y ∷ placed cmp x ys) (x ∷ y ∷ ys)) ≡ filter p (x ∷ y ∷ ys)) [
        | inl l ↦
            ap (λ t. filter p (cond t (y ∷ placed cmp x ys) (x ∷ y ∷ ys))) l ∙ ap (λ l. cond (p y) (y ∷ l) l) (placed_ties w x ys)
            ∙ elim (cases_Bool (p x)) as (λ _. filter p (y ∷ x ∷ ys) ≡ filter p (x ∷ y ∷ ys)) [
              | inl t ↦
                  let fail : p y ≡ false = no_tie w x y t l in
                  left_out p y (x ∷ ys) fail ∙ ap (λ l. cond (p x) (x ∷ l) l) (sym (left_out p y ys fail))
              | inr f ↦ ap (λ l. cond (p y) (y ∷ l) l) (left_out p x ys f) ∙ sym (left_out p x (y ∷ ys) f)
            ]
        | inr f ↦ ap (λ t. filter p (cond t (y ∷ placed cmp x ys) (x ∷ y ∷ ys))) f
      ]

  -- Members that tie stand as they stood.
  pub ordered_ties : (w : X) (xs : List X) → filter (λ v. is_eq (cmp w v)) (ordered_by cmp xs) ≡ filter (λ v. is_eq (cmp w v)) xs
  ordered_ties w [] = refl
  ordered_ties w (x ∷ xs) = placed_ties w x (ordered_by cmp xs) ∙ ap (λ l. cond (is_eq (cmp w x)) (x ∷ l) l) (ordered_ties w xs)

  -- Members that pass a test, put in order, are those of the list put in order.
  pub filter_ordered : (p : X → Bool) (xs : List X) → filter p (ordered_by cmp xs) ≡ ordered_by cmp (filter p xs)
  filter_ordered p xs =
      one_order cmp o (filter p (ordered_by cmp xs)) (ordered_by cmp (filter p xs)) (filtered_ascends cmp p (ordered_by cmp xs) (ordered_ascends xs))
      (ordered_ascends (filter p xs))
      (λ x. let tie : X → Bool = λ w. is_eq (cmp x w) in
      filter_swap tie p (ordered_by cmp xs) ∙ ap (filter p) (ordered_ties x xs) ∙ filter_swap p tie xs ∙ sym (ordered_ties x (filter p xs)))

-- ---- two orders

-- orders that agree on a list's members put it in one order
module _ {X : Type 0} (c d : X → X → Ordering) (P : X → Type 0) (agree : (x y : X) → P x → P y → c x y ≡ d x y) where
  placed_alike : (x : X) (ys : List X) → P x → AllByRecursion P ys → placed c x ys ≡ placed d x ys
  placed_alike x [] h all = refl
  placed_alike x (y ∷ ys) h all = λ i. cond (is_lt (agree y x all.0 h i)) (y ∷ placed_alike x ys h all.1 i) (x ∷ y ∷ ys)

  pub ordered_alike : (xs : List X) → AllByRecursion P xs → ordered_by c xs ≡ ordered_by d xs
  ordered_alike [] all = refl
  ordered_alike (x ∷ xs) all = placed_alike x (ordered_by c xs) all.0 (ordered_all c P xs all.1) ∙ ap (placed d x) (ordered_alike xs all.1)
