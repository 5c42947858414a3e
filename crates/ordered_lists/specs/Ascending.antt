-- Serves proofs alone: a rising list is settled by its members and by the order in which those that tie stand.
use Rattle.std.proofs.Common.{◌≡◌, refl, sym, ap, ◌∙◌, Bool, true, false, cond, ◌||◌, List, [], ◌∷◌, ◌++◌, filter, inl, inr}
use Rattle.std.specs.List.{AllByRecursion, list_any}
use Rattle.std.specs.declared.cmp.Ordering.{Ordering}
use Rattle.std.specs.declared.cmp.Ordering.TheVariants.{Less, Equal, Greater}
use Rattle.std.specs.Ordering.{is_lt, is_gt, is_eq, ordering_reverse}
use Rattle.std.specs.Cmp.{IsTotalOrder}
use Rattle.std.proofs.lemmas.Bool.{cases_Bool, or_left}
use Rattle.std.proofs.lemmas.Cmp.{upto, tied_itself}

heads : {X : Type 0} {x y : X} {xs ys : List X} → (x ∷ xs) ≡ (y ∷ ys) → x ≡ y
heads e = cc

tails : {X : Type 0} {x y : X} {xs ys : List X} → (x ∷ xs) ≡ (y ∷ ys) → xs ≡ ys
tails e = cc

-- a filter at a member that passes, and at one that fails
pub kept : {X : Type 0} (p : X → Bool) (x : X) (xs : List X) → p x ≡ true → filter p (x ∷ xs) ≡ x ∷ filter p xs
kept p x xs t = ap (λ b. cond b (x ∷ filter p xs) (filter p xs)) t

pub left_out : {X : Type 0} (p : X → Bool) (x : X) (xs : List X) → p x ≡ false → filter p (x ∷ xs) ≡ filter p xs
left_out p x xs f = ap (λ b. cond b (x ∷ filter p xs) (filter p xs)) f

-- where a filter leaves something, a member passes
passed : {X : Type 0} (p : X → Bool) (w : X) (ws zs : List X) → filter p zs ≡ (w ∷ ws) → list_any p zs ≡ true
passed p w ws [] e = let no : ⊥ = cc in absurd no
passed p w ws (z ∷ zs) e = elim (cases_Bool (p z)) as (λ _. (p z || list_any p zs) ≡ true) [
  | inl t ↦ or_left (p z) (list_any p zs) t
  | inr f ↦ ap (λ b. b || list_any p zs) f ∙ passed p w ws zs (sym (left_out p z zs f) ∙ e)
]

-- what holds of all holds of those that pass, and of two lists together
pub recursion_filter : {X : Type 0} (P : X → Type 0) (p : X → Bool) (xs : List X) → AllByRecursion P xs → AllByRecursion P (filter p xs)
recursion_filter P p [] h = tt
recursion_filter P p (x ∷ xs) h = elim (p x) as (λ b. AllByRecursion P (cond b (x ∷ filter p xs) (filter p xs))) [
  | true ↦ (h.0, recursion_filter P p xs h.1)
  | false ↦ recursion_filter P p xs h.1
]

pub recursion_append : {X : Type 0} (P : X → Type 0) (xs ys : List X) → AllByRecursion P xs → AllByRecursion P ys → AllByRecursion P (xs ++ ys)
recursion_append P [] ys h g = g
recursion_append P (x ∷ xs) ys h g = (h.0, recursion_append P xs ys h.1 g)

equal_by : (r : Ordering) → is_lt r ≡ false → is_gt r ≡ false → r ≡ Equal
equal_by Less e f = let no : ⊥ = cc in absurd no
equal_by Equal e f = refl
equal_by Greater e f = let no : ⊥ = cc in absurd no

pub equal_is : (r : Ordering) → is_eq r ≡ true → r ≡ Equal
equal_is Less e = let no : ⊥ = cc in absurd no
equal_is Equal e = refl
equal_is Greater e = let no : ⊥ = cc in absurd no

reversed_less : (r : Ordering) → is_lt (ordering_reverse r) ≡ is_gt r
reversed_less Less = refl
reversed_less Equal = refl
reversed_less Greater = refl

less_not_greater : (r : Ordering) → is_lt r ≡ true → is_gt r ≡ false
less_not_greater Less e = refl
less_not_greater Equal e = refl
less_not_greater Greater e = sym e

module _ {X : Type 0} (cmp : X → X → Ordering) where
  -- no member is less than an earlier one
  abbrev pub Ascends : List X → Type 0
  Ascends [] = Unit {0}
  Ascends (x ∷ xs) = AllByRecursion (λ y. is_lt (cmp y x) ≡ false) xs × Ascends xs

  pub filtered_ascends : (p : X → Bool) (xs : List X) → Ascends xs → Ascends (filter p xs)
  filtered_ascends p [] h = tt
  filtered_ascends p (x ∷ xs) h = elim (p x) as (λ b. Ascends (cond b (x ∷ filter p xs) (filter p xs))) [
    | true ↦ (recursion_filter (λ y. is_lt (cmp y x) ≡ false) p xs h.0, filtered_ascends p xs h.1)
    | false ↦ filtered_ascends p xs h.1
  ]

  -- two rising lists, nothing of the second less than anything of the first
  pub joined_ascends : (xs ys : List X) → Ascends xs → Ascends ys → AllByRecursion (λ x. AllByRecursion (λ y. is_lt (cmp y x) ≡ false) ys) xs
      → Ascends (xs ++ ys)
  joined_ascends [] ys a b h = b
  joined_ascends (x ∷ xs) ys a b h = (recursion_append (λ y. is_lt (cmp y x) ≡ false) xs ys a.0 h.0, joined_ascends xs ys a.1 b h.1)

  module _ (o : IsTotalOrder cmp) where
    pub flipped : (x y : X) → is_lt (cmp y x) ≡ is_gt (cmp x y)
    flipped x y = ap is_lt (o.antisymm y x) ∙ reversed_less (cmp x y)

    -- at most, one after another
    pub chain : (x y z : X) → is_lt (cmp y x) ≡ false → is_lt (cmp z y) ≡ false → is_lt (cmp z x) ≡ false
    chain x y z e f = flipped x z ∙ upto o x y z (sym (flipped x y) ∙ e) (sym (flipped y z) ∙ f)

    pub not_back : (x y : X) → is_lt (cmp y x) ≡ true → is_lt (cmp x y) ≡ false
    not_back x y e = flipped y x ∙ less_not_greater (cmp y x) e

    itself : (x : X) → is_eq (cmp x x) ≡ true
    itself x = ap is_eq (tied_itself o x)

    -- what all of a list are at least, so is what ties with one of them
    below_tied : (z y : X) (zs : List X) → AllByRecursion (λ w. is_lt (cmp w z) ≡ false) zs → list_any (λ w. is_eq (cmp y w)) zs ≡ true
        → is_lt (cmp y z) ≡ false
    below_tied z y [] h e = let no : ⊥ = cc in absurd no
    below_tied z y (w ∷ ws) h e = elim (cases_Bool (is_eq (cmp y w))) as (λ _. is_lt (cmp y z) ≡ false) [
      | inl t ↦ ap is_lt (o.congr y w z (equal_is (cmp y w) t)) ∙ h.0
      | inr f ↦ below_tied z y ws h.1 (sym (ap (λ b. b || list_any (λ w. is_eq (cmp y w)) ws) f) ∙ e)
    ]

    -- the first of one list is at least that of another whose ties with it are the same
    head_above : (y z : X) (ys zs : List X) → Ascends (z ∷ zs) → filter (λ w. is_eq (cmp y w)) (y ∷ ys) ≡ filter (λ w. is_eq (cmp y w)) (z ∷ zs)
        → is_lt (cmp y z) ≡ false
    head_above y z ys zs b h =
        below_tied z y (z ∷ zs) (ap is_lt (tied_itself o z), b.0)
        (passed (λ w. is_eq (cmp y w)) y (filter (λ w. is_eq (cmp y w)) ys) (z ∷ zs) (sym h ∙ kept (λ w. is_eq (cmp y w)) y ys (itself y)))

    -- Two rising lists are one where, for each element, those that tie with it are the same list in both.
    pub one_order : (ys zs : List X) → Ascends ys → Ascends zs → ((x : X) → filter (λ w. is_eq (cmp x w)) ys ≡ filter (λ w. is_eq (cmp x w)) zs) → ys ≡ zs
    one_order [] [] a b h = refl
    one_order [] (z ∷ zs) a b h =
        let e : [] ≡ (z ∷ filter (λ w. is_eq (cmp z w)) zs) = h z ∙ kept (λ w. is_eq (cmp z w)) z zs (itself z) in
        let no : ⊥ = cc in absurd no
    one_order (y ∷ ys) [] a b h =
        let e : (y ∷ filter (λ w. is_eq (cmp y w)) ys) ≡ [] = sym (kept (λ w. is_eq (cmp y w)) y ys (itself y)) ∙ h y in
        let no : ⊥ = cc in absurd no
    one_order (y ∷ ys) (z ∷ zs) a b h =
        let low : is_lt (cmp y z) ≡ false = head_above y z ys zs b (h y) in
        let high : is_lt (cmp z y) ≡ false = head_above z y zs ys a (sym (h z)) in
        let tie : cmp y z ≡ Equal = equal_by (cmp y z) low (sym (flipped y z) ∙ high) in
        let heads_is : (y ∷ filter (λ w. is_eq (cmp y w)) ys) ≡ (z ∷ filter (λ w. is_eq (cmp y w)) zs) =
        sym (kept (λ w. is_eq (cmp y w)) y ys (itself y)) ∙ h y ∙ kept (λ w. is_eq (cmp y w)) z zs (ap is_eq tie) in
        let one : y ≡ z = heads heads_is in
        let rest : (x : X) → filter (λ w. is_eq (cmp x w)) ys ≡ filter (λ w. is_eq (cmp x w)) zs =
        λ x. elim (cases_Bool (is_eq (cmp x y))) as (λ _. filter (λ w. is_eq (cmp x w)) ys ≡ filter (λ w. is_eq (cmp x w)) zs) [
          | inl t ↦
              let here : (y ∷ filter (λ w. is_eq (cmp x w)) ys) ≡ (z ∷ filter (λ w. is_eq (cmp x w)) zs) =
              sym (kept (λ w. is_eq (cmp x w)) y ys t) ∙ h x ∙ kept (λ w. is_eq (cmp x w)) z zs (ap (λ w. is_eq (cmp x w)) (sym one) ∙ t)
              in tails here
          | inr f ↦
              sym (left_out (λ w. is_eq (cmp x w)) y ys f) ∙ h x ∙ left_out (λ w. is_eq (cmp x w)) z zs (ap (λ w. is_eq (cmp x w)) (sym one) ∙ f)
        ] in
        λ i. one i ∷ one_order ys zs a.1 b.1 rest i
