-- Serves proofs alone: the front of a list put in order, from fewer members than the whole list's.
use Rattle.std.proofs.Common.{◌≡◌, ℕ, zero, suc, ◌+◌, ◌≤◌, refl, sym, ap, ◌∙◌, Bool, true, false, List, [], ◌∷◌, ◌++◌, filter, length, take, get_or}
use Rattle.std.proofs.Common.{arith, append_assoc, inl, inr}
use Rattle.std.specs.List.{All, AllByRecursion}
use Rattle.std.specs.List.Sorted.{IsPermutation, IsSorted, IsSplitAround}
use Rattle.std.specs.declared.cmp.Ordering.{Ordering}
use Rattle.std.specs.Ordering.{is_lt, is_eq}
use Rattle.std.specs.Cmp.{IsTotalOrder}
use Rattle.std.proofs.Math.Seq.{take-append_seam}
use Rattle.std.proofs.lemmas.Bool.{cases_Bool, true≢false}
use Rattle.std.proofs.lemmas.List.Elements.{recursion_from_All, All-cons, All-push, filter-append}
use Rattle.std.proofs.lemmas.List.{length-append}
use Rattle.std.proofs.lemmas.List.Sorted.{All-permutation, IsPermutation-trans, IsPermutation-append, length_permutation}
use Rattle.ordered_lists.specs.Ordered.{ordered_by, IsFront}
use Rattle.ordered_lists.specs.Ascending.{Ascends, chain, joined_ascends, one_order, kept, left_out}
use Rattle.ordered_lists.specs.OrderedLaws.{ordered_ascends, ordered_ties, ordered_moves, length_ordered, filter_ordered}
use Rattle.ordered_lists.specs.SortedLists.{sorted_ascends, ascends_sorted}

nested : {X : Type 0} (P : X → X → Type 0) (xs ys : List X) → All (λ x. All (P x) ys) xs → AllByRecursion (λ x. AllByRecursion (P x) ys) xs
nested P xs ys h = recursion_from_All (λ x. AllByRecursion (P x) ys) xs (λ k d l. recursion_from_All (P (get_or xs k d)) ys (h k d l))

none_pass : {X : Type 0} (p : X → Bool) (xs : List X) → AllByRecursion (λ x. p x ≡ false) xs → filter p xs ≡ []
none_pass p [] h = refl
none_pass p (x ∷ xs) h = left_out p x xs h.0 ∙ none_pass p xs h.1

weaker : {X : Type 0} (P Q : X → Type 0) → ((x : X) → P x → Q x) → (xs : List X) → AllByRecursion P xs → AllByRecursion Q xs
weaker P Q f [] h = tt
weaker P Q f (x ∷ xs) h = (f x h.0, weaker P Q f xs h.1)

module _ {X : Type 0} (cmp : X → X → Ordering) (o : IsTotalOrder cmp) where
  -- Where nothing of a second list is less than anything of a first, both put in order one after the other are all in order.
  pub joined_ordered : (xs ys : List X) → All (λ x. All (λ y. is_lt (cmp y x) ≡ false) ys) xs
      → ordered_by cmp (xs ++ ys) ≡ ordered_by cmp xs ++ ordered_by cmp ys
  joined_ordered xs ys h =
      let us : List X = ordered_by cmp xs in
      let vs : List X = ordered_by cmp ys in
      let later : All (λ x. All (λ y. is_lt (cmp y x) ≡ false) vs) xs =
      λ k d l. All-permutation (λ y. is_lt (cmp y (get_or xs k d)) ≡ false) ys vs (ordered_moves cmp ys) (h k d l) in
      let both : All (λ x. All (λ y. is_lt (cmp y x) ≡ false) vs) us =
      All-permutation (λ x. All (λ y. is_lt (cmp y x) ≡ false) vs) xs us (ordered_moves cmp xs) later in
      one_order cmp o (ordered_by cmp (xs ++ ys)) (us ++ vs) (ordered_ascends cmp o (xs ++ ys))
      (joined_ascends cmp us vs (ordered_ascends cmp o xs) (ordered_ascends cmp o ys) (nested (λ x y. is_lt (cmp y x) ≡ false) us vs both))
      (λ w. let tie : X → Bool = λ v. is_eq (cmp w v) in
      ordered_ties cmp o w (xs ++ ys) ∙ filter-append tie xs ys
      ∙ sym (filter-append tie us vs ∙ (λ i. ordered_ties cmp o w xs i ++ ordered_ties cmp o w ys i)))

  -- So the first list put in order is the front of all in order.
  pub front_ordered : (xs ys : List X) → All (λ x. All (λ y. is_lt (cmp y x) ≡ false) ys) xs → take (length xs) (ordered_by cmp (xs ++ ys)) ≡ ordered_by cmp xs
  front_ordered xs ys h =
      ap (take (length xs)) (joined_ordered xs ys h)
      ∙ ap (λ n. take n (ordered_by cmp xs ++ ordered_by cmp ys)) (sym (length_ordered cmp xs))
      ∙ take-append_seam (ordered_by cmp xs) (ordered_by cmp ys)

  split_each : (front : List X) (x : X) (back : List X) → IsSplitAround cmp front x back → All (λ f. All (λ y. is_lt (cmp y f) ≡ false) (x ∷ back)) front
  split_each front x back split k d l =
      All-cons (λ y. is_lt (cmp y (get_or front k d)) ≡ false) x back (split.0 k d l)
      (λ j e m. chain cmp o (get_or front k d) x (get_or back j e) (split.0 k d l) (split.1 j e m))

  split_all : (front : List X) (x : X) (back : List X) → IsSplitAround cmp front x back
      → All (λ y. All (λ z. is_lt (cmp z y) ≡ false) back) (front ++ x ∷ [])
  split_all front x back split =
      All-push (λ y. All (λ z. is_lt (cmp z y) ≡ false) back) front x
      (λ k d l j e m. chain cmp o (get_or front k d) x (get_or back j e) (split.0 k d l) (split.1 j e m))
      (λ j e m. split.1 j e m)

  -- A member that a list is split around: what stands before it and it, put in order, are the front of all in order.
  pub split_ordered : (front : List X) (x : X) (back : List X) → IsSplitAround cmp front x back
      → take (length front + 1) (ordered_by cmp (front ++ x ∷ back)) ≡ ordered_by cmp (front ++ x ∷ [])
  split_ordered front x back split =
      let n : length (front ++ x ∷ []) ≡ length front + 1 = length-append front (x ∷ []) in
      ap (take (length front + 1)) (ap (ordered_by cmp) (sym (append_assoc front (x ∷ []) back)))
      ∙ ap (λ k. take k (ordered_by cmp ((front ++ x ∷ []) ++ back))) (sym n)
      ∙ front_ordered (front ++ x ∷ []) back (split_all front x back split)

  -- a test that what isn't greater than a member that passes passes too
  abbrev pub IsBound : (X → Bool) → Type 0
  IsBound p = (x y : X) → is_lt (cmp y x) ≡ false → p y ≡ true → p x ≡ true

  front_stays : (p : X → Bool) → IsBound p → (k : ℕ) (zs : List X) → Ascends cmp zs → k ≤ length (filter p zs) → take k zs ≡ take k (filter p zs)
  front_stays p bound k [] up enough = refl
  front_stays p bound zero (z ∷ zs) up enough = refl
  front_stays p bound (suc k) (z ∷ zs) up enough = elim (cases_Bool (p z)) as (λ _. take (suc k) (z ∷ zs) ≡ take (suc k) (filter p (z ∷ zs))) [
    | inl t ↦
        let is : filter p (z ∷ zs) ≡ z ∷ filter p zs = kept p z zs t in
        let more : k ≤ length (filter p zs) = (let e = ap length is in omega (arith, e)) in
        ap (λ l. z ∷ l) (front_stays p bound k zs up.1 more) ∙ sym (ap (take (suc k)) is)
    | inr f ↦
        let fails : (y : X) → is_lt (cmp y z) ≡ false → p y ≡ false =
        λ y b. elim (cases_Bool (p y)) as (λ _. p y ≡ false) [
          | inl g ↦ absurd (true≢false (sym (bound z y b g) ∙ f))
          | inr g ↦ g
        ] in
        let is : filter p (z ∷ zs) ≡ [] = left_out p z zs f ∙ none_pass p zs (weaker (λ y. is_lt (cmp y z) ≡ false) (λ y. p y ≡ false) fails zs up.0) in
        let e = ap length is in absurd (omega (arith, e))
  ]

  -- To order and cut, it suffices to order those within a bound, where so many are.
  pub cut_front : (p : X → Bool) → IsBound p → (k : ℕ) (xs : List X) → k ≤ length (filter p xs)
      → take k (ordered_by cmp xs) ≡ take k (ordered_by cmp (filter p xs))
  cut_front p bound k xs enough =
      let is : filter p (ordered_by cmp xs) ≡ ordered_by cmp (filter p xs) = filter_ordered cmp o p xs in
      let n : length (ordered_by cmp (filter p xs)) ≡ length (filter p xs) = length_ordered cmp (filter p xs) in
      let e = ap length is in
      front_stays p bound k (ordered_by cmp xs) (ordered_ascends cmp o xs) (omega (arith, enough, n, e)) ∙ ap (take k) is

  -- What `select_nth_unstable` leaves before the member at its index, sorted, is the first so many in a rising order.
  pub chosen_front : (xs front : List X) (x : X) (back now : List X) → IsPermutation xs (front ++ x ∷ back) → IsSplitAround cmp front x back
      → IsPermutation front now → IsSorted cmp now → IsFront cmp (length front) xs now
  chosen_front xs front x back now moved split sorted_moves sorted =
      let rest : List X = ordered_by cmp (x ∷ back) in
      let later : All (λ f. All (λ y. is_lt (cmp y f) ≡ false) rest) front =
      λ k d l. All-permutation (λ y. is_lt (cmp y (get_or front k d)) ≡ false) (x ∷ back) rest (ordered_moves cmp (x ∷ back))
      (split_each front x back split k d l) in
      let both : All (λ f. All (λ y. is_lt (cmp y f) ≡ false) rest) now =
      All-permutation (λ f. All (λ y. is_lt (cmp y f) ≡ false) rest) front now sorted_moves later in
      let up : Ascends cmp (now ++ rest) =
      joined_ascends cmp now rest (sorted_ascends cmp o now sorted) (ordered_ascends cmp o (x ∷ back))
      (nested (λ f y. is_lt (cmp y f) ≡ false) now rest both) in
      record {
        all = now ++ rest;
        members =
            IsPermutation-trans xs (front ++ x ∷ back) (now ++ rest) moved
            (IsPermutation-append front now (x ∷ back) rest sorted_moves (ordered_moves cmp (x ∷ back)));
        rising = ascends_sorted cmp (now ++ rest) up;
        first = sym (ap (λ n. take n (now ++ rest)) (sym (length_permutation front now sorted_moves)) ∙ take-append_seam now rest);
      }
