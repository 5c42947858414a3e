-- Which members `nearest` has: the slots of the map, each once, strictly rising, and none of those that are left out is before one of them.
use Rattle.std.proofs.Common.{◌≡◌, ℕ, ◌+◌, ◌<◌, ◌≤◌, Bool, true, false, cond, ◌==◌, nat_lt, List, []}
use Rattle.std.proofs.Common.{◌∷◌, map, take, length, get_or, refl, sym, ap, subst, ◌∙◌, arith, inl, inr}
use Rattle.std.specs.List.{AllByRecursion, Contains, list_all, sum_by}
use Rattle.std.specs.List.Sorted.{IsPermutation, IsSorted}
use Rattle.std.specs.Ordering.{nat_cmp, is_lt, ordering_then, ordering_reverse}
use Rattle.std.specs.declared.cmp.Ordering.TheVariants.{Less, Equal, Greater}
use Rattle.std.specs.Cmp.{ranked, first_so, second_so}
use Rattle.std.specs.FinMap.{FinMap, entries, get}
use Rattle.std.proofs.lemmas.Bool.{eq-eqb, eqb-true, cases_Bool, cases_lt, true≢false}
use Rattle.std.proofs.lemmas.Bool.Decides.{nat_tests}
use Rattle.std.proofs.lemmas.List.{length-take, get_or-take, get_or_default, get_or-map, length-map}
use Rattle.std.proofs.lemmas.List.Elements.{All-contains, All-from_recursion}
use Rattle.std.proofs.lemmas.List.Sorted.{sorted_far, ranks_by, sum_by-IsPermutation}
use Rattle.std.proofs.lemmas.List.Sums.{sum_by-cons, sum_by_more_le, get_or-le-sum_by}
use Rattle.fixed_box.specs.Bounds.{Bounds}
use Rattle.slot_lists.specs.Rising.{rises_by}
use Rattle.broad_index.specs.NearRises.{slot_lt}
use Rattle.ordered_lists.specs.Ordered.{ordered_by}
use Rattle.near_boxes.specs.declared.near.Near.{Near}
use Rattle.near_boxes.specs.Nearest.{near_cmp, seen_about, IsSeenAbout, Precedes}
use Rattle.broad_index.specs.MapEntries.{Looked, looked_in, entry_in, entries_up}
use Rattle.near_boxes.specs.NearOrder.{near_total, tied}
use Rattle.fixed_box.proofs.Numbers.{eq_le}

-- ---- the order

-- by squares that differ, or by slots
by_slot : (m n : Near) → m.square ≡ n.square → is_lt (nat_cmp m.slot n.slot) ≡ true → Precedes m n
by_slot m n e h = elim (nat_cmp m.slot n.slot) as (λ r. r ≡ nat_cmp m.slot n.slot → is_lt r ≡ true → Precedes m n) [
  | Less ↦ λ s _. inr (e, ranked m.slot n.slot Less s)
  | Equal ↦ λ _ g. absurd (true≢false (sym g))
  | Greater ↦ λ _ g. absurd (true≢false (sym g))
] refl h

pub precedes : (m n : Near) → is_lt (near_cmp m n) ≡ true → Precedes m n
precedes m n h =
    elim (nat_cmp m.square n.square) as
    (λ r. r ≡ nat_cmp m.square n.square → is_lt (ordering_then r (nat_cmp m.slot n.slot)) ≡ true → Precedes m n) [
      | Less ↦ λ s _. inl (ranked m.square n.square Less s)
      | Equal ↦ λ s g. by_slot m n (ranked m.square n.square Equal s) g
      | Greater ↦ λ _ g. absurd (true≢false (sym g))
    ] refl h

-- of two that differ, the one that isn't after the other is before it
before : (m n : Near) → is_lt (near_cmp n m) ≡ false → (m ≡ n → ⊥) → Precedes m n
before m n h apart = precedes m n (elim (near_cmp m n) as (λ r. r ≡ near_cmp m n → is_lt r ≡ true) [
  | Less ↦ λ _. refl
  | Equal ↦ λ e. absurd (apart (tied m n (sym e)))
  | Greater ↦ λ e. absurd (true≢false (sym (ap is_lt (near_total.antisymm n m ∙ ap ordering_reverse (sym e))) ∙ h))
] refl)

-- ---- each slot stands once

-- whether a member has the slot, as a number
abbrev has : ℕ → Near → ℕ
has k n = cond (k == n.slot) 1 0

differ : (k x y : ℕ) → k ≤ x → nat_lt x y ≡ true → (k == y) ≡ false
differ k x y le lt = grind (arith, nat_tests)

bit : (b : Bool) → cond b 1 0 ≤ 1
bit true = omega arith
bit false = omega arith

-- whether a slot is seen in a list, as a number: nowhere among higher ones, and at most once where slots rise
none_higher : (to : Bounds) (k x : ℕ) (es : List (ℕ × Bounds)) → k ≤ x → list_all (λ e. nat_lt x e.0) es ≡ true → sum_by (has k) (map (seen_about to) es) ≡ 0
none_higher to k x [] le h = refl
none_higher to k x (e ∷ es) le h =
    let no : has k (seen_about to e) ≡ 0 = ap (λ b. cond b 1 0) (differ k x e.0 le (first_so (nat_lt x e.0) (list_all (λ e. nat_lt x e.0) es) h)) in
    let rest : sum_by (has k) (map (seen_about to) es) ≡ 0 = none_higher to k x es le (second_so (nat_lt x e.0) (list_all (λ e. nat_lt x e.0) es) h) in
    let sum = sum_by-cons (has k) (seen_about to e) (map (seen_about to) es) in omega (arith, no, rest, sum)

once : (to : Bounds) (k : ℕ) (es : List (ℕ × Bounds)) → rises_by slot_lt es ≡ true → sum_by (has k) (map (seen_about to) es) ≤ 1
once to k [] h = omega arith
once to k (e ∷ es) h =
    let sum = sum_by-cons (has k) (seen_about to e) (map (seen_about to) es) in
    elim (cases_Bool (k == e.0)) as (λ _. sum_by (has k) (map (seen_about to) (e ∷ es)) ≤ 1) [
      | inl t ↦
          let rest : sum_by (has k) (map (seen_about to) es) ≡ 0 =
          none_higher to k e.0 es (eq_le k e.0 (eqb-true k e.0 t)) (first_so (list_all (slot_lt e) es) (rises_by slot_lt es) h)
          in
          let here : has k (seen_about to e) ≤ 1 = bit (k == e.0) in omega (arith, here, rest, sum)
      | inr f ↦
          let rest : sum_by (has k) (map (seen_about to) es) ≤ 1 = once to k es (second_so (list_all (slot_lt e) es) (rises_by slot_lt es) h) in
          let no : has k (seen_about to e) ≡ 0 = ap (λ b. cond b 1 0) f in omega (arith, no, rest, sum)
    ]

-- two places of a list add up to at most its sum
two_places : {X : Type 0} (f : X → ℕ) (xs : List X) (i j : ℕ) (d : X) → i < j → j < length xs → f (get_or xs i d) + f (get_or xs j d) ≤ sum_by f xs
two_places f xs i j d lt in_list =
    let more = sum_by_more_le f xs j d in_list in
    let short : i < length (take j xs) = (let n = length-take j xs in omega (arith, n)) in
    let first = get_or-le-sum_by f (take j xs) i d short in
    let same : f (get_or (take j xs) i d) ≡ f (get_or xs i d) = ap f (get_or-take j xs i d lt) in omega (arith, more, first, same)

-- ---- the whole list, before it is cut

module _ (bodies : FinMap nat_cmp Bounds) (to : Bounds) where
  abbrev all : List Near
  all = map (seen_about to) (entries bodies)

  abbrev ordered : List Near
  ordered = ordered_by near_cmp all

  all_seen : (es : List (ℕ × Bounds)) → Looked (get bodies) es → AllByRecursion (IsSeenAbout bodies to) (map (seen_about to) es)
  all_seen [] l = tt
  all_seen (e ∷ es) l = ((e.1, (l.0, refl)), all_seen es l.1)

  pub seen : (near : Near) → Contains all near → IsSeenAbout bodies to near
  seen near h = All-contains (IsSeenAbout bodies to) all near (All-from_recursion (IsSeenAbout bodies to) all (all_seen (entries bodies) (looked_in bodies))) h

  pub seen_in : (near : Near) → IsSeenAbout bodies to near → Contains all near
  seen_in near s =
      let c = entry_in bodies near.slot s.0 s.1.0 in
      let is : seen_about to (near.slot, s.0) ≡ near = λ i. record { slot = near.slot; square = sym s.1.1 i } in (
        c.0,
        (let n = length-map (entries bodies) (seen_about to) in let l = c.1 in omega (arith, n, l)),
        get_or-map (seen_about to) (entries bodies) c.0 (near.slot, s.0) near c.1 ∙ ap (seen_about to) c.2 ∙ is,
      )

  module _ (moved : IsPermutation all ordered) (sorted : IsSorted near_cmp ordered) where
    apart : (i j : ℕ) (d : Near) → i < j → j < length ordered → get_or ordered i d ≡ get_or ordered j d → ⊥
    apart i j d lt in_list same =
        let k = (get_or ordered j d).slot in
        let right : has k (get_or ordered j d) ≡ 1 = ap (λ b. cond b 1 0) (eq-eqb k k refl) in
        let left : has k (get_or ordered i d) ≡ 1 = ap (has k) same ∙ right in
        let both = two_places (has k) ordered i j d lt in_list in
        let sums : sum_by (has k) ordered ≡ sum_by (has k) all = sum_by-IsPermutation (has k) all ordered moved in
        let one : sum_by (has k) all ≤ 1 = once to k (entries bodies) (entries_up bodies) in
        omega (arith, right, left, both, sums, one)

    pub rising : (i j : ℕ) (d : Near) → i < j → j < length ordered → Precedes (get_or ordered i d) (get_or ordered j d)
    rising i j d lt in_list =
        let le : i ≤ j = omega arith in
        before (get_or ordered i d) (get_or ordered j d)
        (sorted_far (λ x y. is_lt (near_cmp x y)) (ranks_by near_total (λ (n : Near). n)) ordered sorted i j d le in_list) (apart i j d lt in_list)

    module _ (want : ℕ) where
      in_front : (near : Near) → Contains (take want ordered) near → (i : ℕ) × ((i < want) × ((i < length ordered) × (get_or ordered i near ≡ near)))
      in_front near h =
          let n = length-take want ordered in
          let l = h.1 in
          let short : h.0 < want = omega (arith, n, l) in
          (h.0, (short, (omega (arith, n, l), sym (get_or-take want ordered h.0 near short) ∙ h.2)))

      pub front_member : (near : Near) → Contains (take want ordered) near → Contains ordered near
      front_member near h = let f = in_front near h in (f.0, f.1.1.0, f.1.1.1)

      pub front_rising : (i j : ℕ) (d : Near) → i < j → j < length (take want ordered)
          → Precedes (get_or (take want ordered) i d) (get_or (take want ordered) j d)
      front_rising i j d lt in_list =
          let n = length-take want ordered in
          let short : j < want = omega (arith, n, in_list) in
          let inside : j < length ordered = omega (arith, n, in_list) in
          let shorter : i < want = omega (arith, lt, short) in
          subst (λ m. Precedes m (get_or (take want ordered) j d)) (sym (get_or-take want ordered i d shorter))
          (subst (λ m. Precedes (get_or ordered i d) m) (sym (get_or-take want ordered j d short)) (rising i j d lt inside))

      pub front_before : (near other : Near) → Contains (take want ordered) near → Contains ordered other → (Contains (take want ordered) other → ⊥)
          → Precedes near other
      front_before near other h o out =
          let f = in_front near h in
          let n = length-take want ordered in
          let l = o.1 in
          let late : want ≤ o.0 = elim (cases_lt o.0 want) as (λ _. want ≤ o.0) [
            | inl lt ↦ absurd (out (o.0, omega (arith, n, l, lt), get_or-take want ordered o.0 other lt ∙ o.2))
            | inr le ↦ le
          ] in
          let lt : f.0 < o.0 = (let s = f.1.0 in omega (arith, s, late)) in
          subst (λ m. Precedes m other) f.1.1.1
          (subst (λ m. Precedes (get_or ordered f.0 near) m) (get_or_default ordered o.0 near other o.1 ∙ o.2) (rising f.0 o.0 near lt o.1))
