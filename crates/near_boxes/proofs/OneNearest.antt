-- No other list is what `nearest` is: its members are those of the whole list in order that come first.
use Rattle.std.proofs.Common.{◌≡◌, ℕ, zero, suc, ◌<◌, Bool, true, false, cond, ◌&&◌, List, [], ◌∷◌, map, filter, take, length}
use Rattle.std.proofs.Common.{get_or, min, refl, sym, ap, ◌∙◌, arith, inl, inr}
use Rattle.std.specs.List.{Contains, list_all, list_any}
use Rattle.std.specs.List.Sorted.{IsPermutation, IsSorted}
use Rattle.std.specs.Ordering.{nat_cmp, is_lt, eq_by_cmp, ordering_then}
use Rattle.std.specs.declared.cmp.Ordering.TheVariants.{Less, Equal}
use Rattle.std.specs.Cmp.{nat_cmp_is, first_so, second_so}
use Rattle.std.specs.Cmp.Derive.{both_true}
use Rattle.std.specs.FinMap.{FinMap, entries, len, len-entries}
use Rattle.std.proofs.lemmas.Bool.{cases_Bool, true≢false}
use Rattle.std.proofs.lemmas.Cmp.{eq_by_cmp_equiv}
use Rattle.std.proofs.lemmas.List.{length-map, take_min}
use Rattle.std.proofs.lemmas.List.Sorted.{Contains-permutation, IsPermutation-sym, length_permutation}
use Rattle.std.proofs.lemmas.Map.Views.{Contains-from_any, list_any-from_Contains, any-filter_same}
use Rattle.fixed_box.specs.Bounds.{Bounds}
use Rattle.slot_lists.specs.Rising.{rises_by}
use Rattle.slot_lists.specs.RisingLaws.{Tells, one_rising, filtered_rise}
use Rattle.ordered_lists.specs.Ordered.{ordered_by}
use Rattle.ordered_lists.specs.Ascending.{equal_is}
use Rattle.near_boxes.specs.declared.near.Near.{Near}
use Rattle.near_boxes.specs.Nearest.{near_cmp, seen_about, IsSeenAbout, Precedes, AreNearestAbout}
use Rattle.near_boxes.specs.NearOrder.{near_total, tied}
use Rattle.near_boxes.proofs.NearMembers.{precedes, rising, seen, seen_in}

abbrev lt : Near → Near → Bool
lt m n = is_lt (near_cmp m n)

abbrev same : Near → Near → Bool
same = eq_by_cmp near_cmp

lt_from : (m n : Near) → Precedes m n → lt m n ≡ true
lt_from m n h = elim h as (λ _. lt m n ≡ true) [
  | inl less ↦ ap (λ r. is_lt (ordering_then r (nat_cmp m.slot n.slot))) (sym (nat_cmp_is m.square n.square Less less))
  | inr tie ↦
      ap (λ r. is_lt (ordering_then r (nat_cmp m.slot n.slot))) (sym (nat_cmp_is m.square n.square Equal tie.0))
      ∙ ap is_lt (sym (nat_cmp_is m.slot n.slot Less tie.1))
]

one_way : (m n : Near) → Precedes m n → Precedes n m → ⊥
one_way m n h g = elim h as (λ _. ⊥) [
  | inl less ↦ elim g as (λ _. ⊥) [ inl more ↦ absurd (omega arith) | inr tie ↦ let e = tie.0 in absurd (omega arith) ]
  | inr tie ↦ let e = tie.0 in let l = tie.1 in elim g as (λ _. ⊥) [ inl more ↦ absurd (omega arith) | inr back ↦ let k = back.1 in absurd (omega arith) ]
]

tells : Tells same lt
tells = record {
  means = λ m n e. tied m n (equal_is (near_cmp m n) e);
  self = λ m. (eq_by_cmp_equiv near_total).refl m;
  one_way = λ m n h g. one_way m n (precedes m n h) (precedes n m g);
}

-- a list whose places rise
all_after : (x : Near) (xs : List Near) → ((j : ℕ) (d : Near) → j < length xs → Precedes x (get_or xs j d)) → list_all (lt x) xs ≡ true
all_after x [] h = refl
all_after x (y ∷ ys) h = both_true (lt_from x y (h 0 y (omega arith))) (all_after x ys (λ j d l. h (suc j) d (omega arith)))

rises_at : (xs : List Near) → ((i j : ℕ) (d : Near) → i < j → j < length xs → Precedes (get_or xs i d) (get_or xs j d)) → rises_by lt xs ≡ true
rises_at [] h = refl
rises_at (x ∷ xs) h =
    both_true (all_after x xs (λ j d l. h 0 (suc j) d (omega arith) (omega arith)))
    (rises_at xs (λ i j d l n. h (suc i) (suc j) d (omega arith) (omega arith)))

passes_in : (p : Near → Bool) (xs : List Near) (z : Near) → list_all p xs ≡ true → (k : ℕ) → k < length xs → get_or xs k z ≡ z → p z ≡ true
passes_in p [] z all k l e = absurd (omega arith)
passes_in p (x ∷ xs) z all zero l e = ap p (sym e) ∙ first_so (p x) (list_all p xs) all
passes_in p (x ∷ xs) z all (suc k) l e = passes_in p xs z (second_so (p x) (list_all p xs) all) k (omega arith) e

later : (y : Near) (ys : List Near) (z : Near) → Contains ys z → Contains (y ∷ ys) z
later y ys z c = (suc c.0, (let l = c.1 in omega arith), c.2)

none_pass : (p : Near → Bool) (ys : List Near) → ((z : Near) → Contains ys z → p z ≡ false) → filter p ys ≡ []
none_pass p [] h = refl
none_pass p (y ∷ ys) h =
    ap (λ b. cond b (y ∷ filter p ys) (filter p ys)) (h y (0, omega arith, refl)) ∙ none_pass p ys (λ z c. h z (later y ys z c))

-- In a rising list, those that pass a test stand first where each before one that passes passes too.
front_of : (p : Near → Bool) (ys : List Near) → rises_by lt ys ≡ true
    → ((y z : Near) → Contains ys y → Contains ys z → lt y z ≡ true → p z ≡ true → p y ≡ true) → filter p ys ≡ take (length (filter p ys)) ys
front_of p [] up closed = refl
front_of p (y ∷ ys) up closed =
    let rest : rises_by lt ys ≡ true = second_so (list_all (lt y) ys) (rises_by lt ys) up in
    elim (cases_Bool (p y)) as (λ _. filter p (y ∷ ys) ≡ take (length (filter p (y ∷ ys))) (y ∷ ys)) [
      | inl t ↦
          let is : filter p (y ∷ ys) ≡ y ∷ filter p ys = ap (λ b. cond b (y ∷ filter p ys) (filter p ys)) t in
          is ∙ ap (λ l. y ∷ l) (front_of p ys rest (λ w z c d. closed w z (later y ys w c) (later y ys z d)))
          ∙ sym (ap (λ l. take (length l) (y ∷ ys)) is)
      | inr f ↦
          let fails : (z : Near) → Contains ys z → p z ≡ false =
          λ z c. elim (cases_Bool (p z)) as (λ _. p z ≡ false) [
            | inl t ↦
                let above : lt y z ≡ true = passes_in (lt y) ys z (first_so (list_all (lt y) ys) (rises_by lt ys) up) c.0 c.1 c.2 in
                absurd (true≢false (sym (closed y z (0, omega arith, refl) (later y ys z c) above t) ∙ f))
            | inr g ↦ g
          ] in
          let is : filter p (y ∷ ys) ≡ [] = ap (λ b. cond b (y ∷ filter p ys) (filter p ys)) f ∙ none_pass p ys fails in
          is ∙ sym (ap (λ l. take (length l) (y ∷ ys)) is)
    ]

module _ (bodies : FinMap nat_cmp Bounds) (to : Bounds) where
  abbrev all : List Near
  all = map (seen_about to) (entries bodies)

  abbrev ordered : List Near
  ordered = ordered_by near_cmp all

  module _ (moved : IsPermutation all ordered) (sorted : IsSorted near_cmp ordered) (want : ℕ) (nears : List Near) (a : AreNearestAbout bodies to want nears) where
    abbrev is_in : Near → Bool
    is_in n = list_any (same n) nears

    in_list : (n : Near) → is_in n ≡ true → Contains nears n
    in_list n h = Contains-from_any tells.means n nears h

    listed : (n : Near) → Contains nears n → is_in n ≡ true
    listed n c = list_any-from_Contains (eq_by_cmp_equiv near_total) n nears c

    in_ordered : (n : Near) → is_in n ≡ true → list_any (same n) ordered ≡ true
    in_ordered n h =
        list_any-from_Contains (eq_by_cmp_equiv near_total) n ordered
        (Contains-permutation all ordered n moved (seen_in bodies to n (a.seen n (in_list n h))))

    closed : (m n : Near) → Contains ordered m → Contains ordered n → lt m n ≡ true → is_in n ≡ true → is_in m ≡ true
    closed m n c d less h = elim (cases_Bool (is_in m)) as (λ _. is_in m ≡ true) [
      | inl t ↦ t
      | inr f ↦
          let known : IsSeenAbout bodies to m = seen bodies to m (Contains-permutation ordered all m (IsPermutation-sym all ordered moved) c) in
          let out : Contains nears m → ⊥ = λ here. true≢false (sym (listed m here) ∙ f) in
          absurd (one_way m n (precedes m n less) (a.left_out n m (in_list n h) known out))
    ]

    members : (n : Near) → is_in n ≡ list_any (same n) (filter is_in ordered)
    members n =
        let kept : list_any (same n) (filter is_in ordered) ≡ (is_in n && list_any (same n) ordered) =
        any-filter_same (same n) is_in (is_in n) (λ k e. ap is_in (sym (tells.means n k e))) ordered in
        sym (kept ∙ (elim (cases_Bool (is_in n)) as (λ _. (is_in n && list_any (same n) ordered) ≡ is_in n) [
          | inl t ↦ ap (λ b. is_in n && b) (in_ordered n t) ∙ ap (λ b. b && true) t ∙ sym t
          | inr f ↦ ap (λ b. b && list_any (same n) ordered) f ∙ sym f
        ]))

    pub one_nearest : nears ≡ take want ordered
    one_nearest =
        let up : rises_by lt ordered ≡ true = rises_at ordered (rising bodies to moved sorted) in
        let is : nears ≡ filter is_in ordered =
        one_rising same lt tells nears (filter is_in ordered) (rises_at nears a.rising) (filtered_rise lt is_in ordered up) members in
        let size : len bodies ≡ length ordered =
        len-entries bodies ∙ sym (length-map (entries bodies) (seen_about to)) ∙ sym (length_permutation all ordered moved) in
        let count : length (filter is_in ordered) ≡ min want (length ordered) = sym (ap length is) ∙ a.count ∙ ap (min want) size in
        is ∙ front_of is_in ordered up closed ∙ ap (λ k. take k ordered) count ∙ take_min want ordered
