-- Serves proofs alone: what holds of rising lists, whatever their elements and whichever the order.
use Rattle.std.specs.Prelude.{◌≡◌, Bool, true, false, cond, ◌||◌, List, [], ◌∷◌, ◌++◌, map, filter, refl}
use Rattle.std.specs.Cmp.{first_so, second_so}
use Rattle.std.specs.Cmp.Derive.{both_true}
use Rattle.std.specs.List.{list_all, list_any}
use Rattle.std.proofs.Common.{◌∙◌, sym, ap, inl, inr}
use Rattle.std.proofs.lemmas.Bool.{or_left, or_cases, cases_Bool, false≢true, true≢false}
use Rattle.std.proofs.lemmas.List.Folds.{list_all-append, list_all-map}
use Rattle.slot_lists.specs.Rising.{rises_by}

-- what holds of every element holds of all in a list
pub all_hold : {X : Type 0} (p : X → Bool) → ((x : X) → p x ≡ true) → (xs : List X) → list_all p xs ≡ true
all_hold p h [] = refl
all_hold p h (x ∷ xs) = both_true (h x) (all_hold p h xs)

-- a test that follows from another
pub all_weaker : {X : Type 0} (p q : X → Bool) → ((x : X) → p x ≡ true → q x ≡ true) → (xs : List X) → list_all p xs ≡ true → list_all q xs ≡ true
all_weaker p q h [] a = refl
all_weaker p q h (x ∷ xs) a = both_true (h x (first_so (p x) (list_all p xs) a)) (all_weaker p q h xs (second_so (p x) (list_all p xs) a))

-- some of the elements pass what all pass
pub all_filtered : {X : Type 0} (p test : X → Bool) (xs : List X) → list_all p xs ≡ true → list_all p (filter test xs) ≡ true
all_filtered p test [] h = refl
all_filtered p test (x ∷ xs) h =
    let rest : list_all p (filter test xs) ≡ true = all_filtered p test xs (second_so (p x) (list_all p xs) h) in
    elim (test x) as (λ t. list_all p (cond t (x ∷ filter test xs) (filter test xs)) ≡ true) [
      | true ↦ both_true (first_so (p x) (list_all p xs) h) rest
      | false ↦ rest
    ]

-- a test of equality, and an order that no two elements have both ways
pub record Tells {X : Type 0} (same lt : X → X → Bool) : Type 0 where
  pub means : (x y : X) → same x y ≡ true → x ≡ y
  pub self : (x : X) → same x x ≡ true
  pub one_way : (x y : X) → lt x y ≡ true → lt y x ≡ true → ⊥

module _ {X : Type 0} (lt : X → X → Bool) where
  pub later_rise : (x : X) (later : List X) → rises_by lt (x ∷ later) ≡ true → rises_by lt later ≡ true
  later_rise x later h = second_so (list_all (lt x) later) (rises_by lt later) h

  pub filtered_rise : (test : X → Bool) (xs : List X) → rises_by lt xs ≡ true → rises_by lt (filter test xs) ≡ true
  filtered_rise test [] h = refl
  filtered_rise test (x ∷ xs) h =
      let rest : rises_by lt (filter test xs) ≡ true = filtered_rise test xs (later_rise x xs h) in
      elim (test x) as (λ t. rises_by lt (cond t (x ∷ filter test xs) (filter test xs)) ≡ true) [
        | true ↦ both_true (all_filtered (lt x) test xs (first_so (list_all (lt x) xs) (rises_by lt xs) h)) rest
        | false ↦ rest
      ]

  -- two rising lists, each element of the first before all of the second
  pub joined_rise : (xs ys : List X) → rises_by lt xs ≡ true → rises_by lt ys ≡ true → list_all (λ x. list_all (lt x) ys) xs ≡ true
      → rises_by lt (xs ++ ys) ≡ true
  joined_rise [] ys r s h = s
  joined_rise (x ∷ xs) ys r s h =
      both_true
      (list_all-append (lt x) xs ys
      ∙ both_true (first_so (list_all (lt x) xs) (rises_by lt xs) r) (first_so (list_all (lt x) ys) (list_all (λ x. list_all (lt x) ys) xs) h))
      (joined_rise xs ys (later_rise x xs r) s (second_so (list_all (lt x) ys) (list_all (λ x. list_all (lt x) ys) xs) h))

-- a map that keeps the order
pub mapped_rise : {X Y : Type 0} (lt : X → X → Bool) (below : Y → Y → Bool) (f : X → Y) → ((x y : X) → lt x y ≡ true → below (f x) (f y) ≡ true)
    → (xs : List X) → rises_by lt xs ≡ true → rises_by below (map f xs) ≡ true
mapped_rise lt below f keeps [] h = refl
mapped_rise lt below f keeps (x ∷ xs) h =
    both_true
    (list_all-map (below (f x)) f xs ∙ all_weaker (lt x) (λ y. below (f x) (f y)) (keeps x) xs (first_so (list_all (lt x) xs) (rises_by lt xs) h))
    (mapped_rise lt below f keeps xs (second_so (list_all (lt x) xs) (rises_by lt xs) h))

module _ {X : Type 0} (same lt : X → X → Bool) (t : Tells same lt) where
  -- what is in a list that stands after an element comes after it
  stands_after : (x y : X) (ys : List X) → list_all (lt x) ys ≡ true → list_any (same y) ys ≡ true → lt x y ≡ true
  stands_after x y [] h i = cc
  stands_after x y (z ∷ ys) h i = elim (or_cases (same y z) (list_any (same y) ys) i) as (λ _. lt x y ≡ true) [
    | inl e ↦ ap (lt x) (t.means y z e) ∙ first_so _ _ h
    | inr e ↦ stands_after x y ys (second_so _ _ h) e
  ]

  not_again : (x : X) (ys : List X) → list_all (lt x) ys ≡ true → list_any (same x) ys ≡ false
  not_again x ys h = elim (cases_Bool (list_any (same x) ys)) as (λ _. list_any (same x) ys ≡ false) [
    | inl i ↦ let l = stands_after x x ys h i in absurd (t.one_way x x l l)
    | inr f ↦ f
  ]

  -- rising lists with the same members are one list
  pub one_rising : (xs ys : List X) → rises_by lt xs ≡ true → rises_by lt ys ≡ true → ((x : X) → list_any (same x) xs ≡ list_any (same x) ys) → xs ≡ ys
  one_rising [] [] r s h = refl
  one_rising [] (y ∷ ys) r s h = absurd (false≢true (h y ∙ or_left (same y y) (list_any (same y) ys) (t.self y)))
  one_rising (x ∷ xs) [] r s h = absurd (true≢false (sym (or_left (same x x) (list_any (same x) xs) (t.self x)) ∙ h x))
  one_rising (x ∷ xs) (y ∷ ys) r s h =
      let x_in : list_any (same x) (y ∷ ys) ≡ true = sym (h x) ∙ or_left (same x x) (list_any (same x) xs) (t.self x) in
      let y_in : list_any (same y) (x ∷ xs) ≡ true = h y ∙ or_left (same y y) (list_any (same y) ys) (t.self y) in
      let rx : list_all (lt x) xs ≡ true = first_so _ _ r in
      let sy : list_all (lt y) ys ≡ true = first_so _ _ s in
      let one : x ≡ y = elim (or_cases (same x y) (list_any (same x) ys) x_in) as (λ _. x ≡ y) [
        | inl e ↦ t.means x y e
        | inr i ↦ elim (or_cases (same y x) (list_any (same y) xs) y_in) as (λ _. x ≡ y) [
          | inl e ↦ sym (t.means y x e)
          | inr j ↦ absurd (t.one_way x y (stands_after x y xs rx j) (stands_after y x ys sy i))
        ]
      ] in
      let rest : (z : X) → list_any (same z) xs ≡ list_any (same z) ys =
      λ z. elim (cases_Bool (same z x)) as (λ _. list_any (same z) xs ≡ list_any (same z) ys) [
        | inl e ↦
            let is = t.means z x e in
            ap (λ q. list_any (same q) xs) is ∙ not_again x xs rx ∙ sym (ap (λ q. list_any (same q) ys) (is ∙ one) ∙ not_again y ys sy)
        | inr f ↦
            let g : (same z x || list_any (same z) xs) ≡ (same z x || list_any (same z) ys) =
            h z ∙ ap (λ q. same z q || list_any (same z) ys) (sym one)
            in
            ap (λ b. b || list_any (same z) xs) (sym f) ∙ g ∙ ap (λ b. b || list_any (same z) ys) f
      ] in
      ap (λ l. x ∷ l) (one_rising xs ys (second_so _ _ r) (second_so _ _ s) rest) ∙ ap (λ q. q ∷ ys) one
