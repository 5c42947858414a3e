-- The least candidate that fits is where the moved box first meets the other, and has the value of the ray's first fraction.
use Rattle.std.proofs.Common.{◌≡◌, ℕ, zero, suc, refl, sym, ap, subst, ◌∙◌, ◌*◌, ◌<◌, ◌≤◌, Bool, true, false, cond, ◌&&◌, ◌||◌}
use Rattle.std.proofs.Common.{ℤ, pos, negsuc, ◌*ℤ◌, ◌≤ℤ◌, ◌<ℤ◌}
use Rattle.std.proofs.Common.{int_le, List, [], ◌∷◌, ◌++◌, filter, ◌+ℤ◌, Option, Some, None, IfSome, is_some, IsTrue, arith, inl, inr}
use Rattle.std.specs.List.{flat_map, fold, list_all, list_any, AllByRecursion, Contains}
use Rattle.std.specs.declared.cmp.Ordering.{Ordering}
use Rattle.std.specs.declared.cmp.Ordering.TheVariants.{Less, Equal, Greater}
use Rattle.std.specs.Ordering.{is_eq, is_gt, ordering_reverse, ord_min}
use Rattle.std.specs.Cmp.{first_so, second_so}
use Rattle.std.specs.Cmp.Derive.{both_true}
use Rattle.std.proofs.lemmas.Bool.{cases_Bool}
use Rattle.std.proofs.lemmas.Cmp.{upto}
use Rattle.std.proofs.lemmas.Int.{ints}
use Rattle.std.proofs.lemmas.List.Folds.{list_any_at}
use Rattle.ordered_lists.specs.Leasts.{none_below, one_of}
use Rattle.fixed_box.specs.Bounds.{Bounds}
use Rattle.fixed_box.specs.declared.point.Point.{Point}
use Rattle.ray_slabs.specs.Vector.{widened}
use Rattle.ray_slabs.specs.Crossing.{Fraction, in_ray}
use Rattle.ray_slabs.specs.Crossing as crossing
use Rattle.ray_slabs.specs.First.{value_cmp, first}
use Rattle.ray_slabs.specs.FirstLaws.{value_total, no_later, by_products}
use Rattle.ray_slabs.specs.Law.{RayMeetsFirst}
use Rattle.fixed_box.proofs.Numbers.{le_of_test, test_of_le}
use Rattle.box_cast.specs.Cast.{Track, touches, contacts_by, contacts, tracks, candidates, fits, in_cast, least, first_contact, IsSameValue}
use Rattle.box_cast.specs.Law.{IsTouching, CastMeets, CastMeetsFirst}
use Rattle.box_cast.specs.Widening.{origin, widened_by, reached}
use Rattle.box_cast.proofs.Slid.{RayTold, slabs, candidates_are, cast_of, ray_of, fraction_law, met_law}

-- what passes both tests is what a filter by one leaves for the other
pub any_filtered : {X : Type 0} (p q : X → Bool) (xs : List X) → list_any q (filter p xs) ≡ list_any (λ x. p x && q x) xs
any_filtered p q [] = refl
any_filtered p q (x ∷ xs) =
    elim (p x) as (λ b. list_any q (cond b (x ∷ filter p xs) (filter p xs)) ≡ ((b && q x) || list_any (λ x. p x && q x) xs)) [
      | true ↦ ap (λ b. q x || b) (any_filtered p q xs)
      | false ↦ any_filtered p q xs
    ]

abbrev Above : Fraction → Type 0
Above t = pos 0 <ℤ t.den

contacts_above : (a : Track) (d : ℤ) (rest : List Fraction) → AllByRecursion Above rest → AllByRecursion Above (contacts_by d a ++ rest)
contacts_above a (pos zero) rest h = h
contacts_above a (pos (suc n)) rest h = (omega (arith, ints), (omega (arith, ints), h))
contacts_above a (negsuc n) rest h = (omega (arith, ints), (omega (arith, ints), h))

all_above : (ts : List Track) → AllByRecursion Above (flat_map contacts ts)
all_above [] = tt
all_above (a ∷ ts) = contacts_above a a.by (flat_map contacts ts) (all_above ts)

-- the test of a filter holds of what is left, beside what held before
record Fitting (c : Bounds) (v : Point) (b : Bounds) (t : Fraction) : Type 0 where
  above_zero : Above t
  fit : fits c v b t ≡ true

all_fitting : (c : Bounds) (v : Point) (b : Bounds) (xs : List Fraction) → AllByRecursion Above xs → AllByRecursion (Fitting c v b) (filter (fits c v b) xs)
all_fitting c v b [] h = tt
all_fitting c v b (x ∷ xs) h =
    elim (cases_Bool (fits c v b x)) as (λ _. AllByRecursion (Fitting c v b) (cond (fits c v b x) (x ∷ filter (fits c v b) xs) (filter (fits c v b) xs))) [
      | inl e ↦ subst (λ t. AllByRecursion (Fitting c v b) (cond t (x ∷ filter (fits c v b) xs) (filter (fits c v b) xs))) (sym e)
          (record { above_zero = h.0; fit = e }, all_fitting c v b xs h.1)
      | inr e ↦ subst (λ t. AllByRecursion (Fitting c v b) (cond t (x ∷ filter (fits c v b) xs) (filter (fits c v b) xs))) (sym e) (all_fitting c v b xs h.1)
    ]

-- a fraction that fits, in the words of the law
record MeetsAt (c : Bounds) (v : Point) (b : Bounds) (num den : ℤ) : Type 0 where
  meets : CastMeets c v b
  num_is : num ≡ pos meets.p
  den_is : den ≡ pos meets.q

touching_at : (p q : ℕ) (a : Track) → touches (record { num = pos p; den = pos q }) a ≡ true → IsTouching p q a.near a.far a.by a.lo a.hi
touching_at p q a e =
    let to : Bool = int_le (pos q *ℤ a.near +ℤ pos p *ℤ a.by) (pos q *ℤ a.hi) in
    let from : Bool = int_le (pos q *ℤ a.lo) (pos q *ℤ a.far +ℤ pos p *ℤ a.by) in (
      le_of_test (pos q *ℤ a.near +ℤ pos p *ℤ a.by) (pos q *ℤ a.hi) (first_so to from e),
      le_of_test (pos q *ℤ a.lo) (pos q *ℤ a.far +ℤ pos p *ℤ a.by) (second_so to from e),
    )

meets_at : (c : Bounds) (v : Point) (b : Bounds) (num den : ℤ) → pos 0 <ℤ den → fits c v b (record { num = num; den = den }) ≡ true → MeetsAt c v b num den
meets_at c v b (pos p) (pos q) h e =
    let t : Fraction = record { num = pos p; den = pos q } in
    let x : Track = record { near = c.lo.x; far = c.hi.x; by = v.x; lo = b.lo.x; hi = b.hi.x } in
    let y : Track = record { near = c.lo.y; far = c.hi.y; by = v.y; lo = b.lo.y; hi = b.hi.y } in
    let z : Track = record { near = c.lo.z; far = c.hi.z; by = v.z; lo = b.lo.z; hi = b.hi.z } in
    let ahead : (int_le (pos 0) (pos p) && (touches t x && (touches t y && (touches t z && true)))) ≡ true =
    second_so (int_le (pos p) (pos q)) (int_le (pos 0) (pos p) && (touches t x && (touches t y && (touches t z && true)))) e in
    let xyz : (touches t x && (touches t y && (touches t z && true))) ≡ true =
    second_so (int_le (pos 0) (pos p)) (touches t x && (touches t y && (touches t z && true))) ahead in
    let yz : (touches t y && (touches t z && true)) ≡ true = second_so (touches t x) (touches t y && (touches t z && true)) xyz in
    let one : pos p ≤ℤ pos q = le_of_test (pos p) (pos q)
    (first_so (int_le (pos p) (pos q)) (int_le (pos 0) (pos p) && (touches t x && (touches t y && (touches t z && true)))) e) in
    record {
      meets = record {
        p = p;
        q = q;
        above_zero = omega (arith, ints);
        at_most_one = omega (arith, ints);
        x = touching_at p q x (first_so (touches t x) (touches t y && (touches t z && true)) xyz);
        y = touching_at p q y (first_so (touches t y) (touches t z && true) yz);
        z = touching_at p q z (first_so (touches t z) true (second_so (touches t y) (touches t z && true) yz));
      };
      num_is = refl;
      den_is = refl;
    }
meets_at c v b (pos p) (negsuc q) h e = absurd (omega (arith, ints))
meets_at c v b (negsuc p) den h e =
    let t : Fraction = record { num = negsuc p; den = den } in
    let ahead : (false && list_all (touches t) (tracks c v b)) ≡ true = second_so (int_le (negsuc p) den) (false && list_all (touches t) (tracks c v b)) e in
    let no : ⊥ = cc in absurd no

tested_at : (p q : ℕ) (a : Track) → IsTouching p q a.near a.far a.by a.lo a.hi → touches (record { num = pos p; den = pos q }) a ≡ true
tested_at p q a h =
    both_true (test_of_le (pos q *ℤ a.near +ℤ pos p *ℤ a.by) (pos q *ℤ a.hi) h.0) (test_of_le (pos q *ℤ a.lo) (pos q *ℤ a.far +ℤ pos p *ℤ a.by) h.1)

fits_at : (c : Bounds) (v : Point) (b : Bounds) (m : CastMeets c v b) → fits c v b (record { num = pos m.p; den = pos m.q }) ≡ true
fits_at c v b m =
    let one : m.p ≤ m.q = m.at_most_one in
    both_true (test_of_le (pos m.p) (pos m.q) (omega (arith, ints)))
    (both_true (test_of_le (pos 0) (pos m.p) (omega (arith, ints)))
    (both_true (tested_at m.p m.q (record { near = c.lo.x; far = c.hi.x; by = v.x; lo = b.lo.x; hi = b.hi.x }) m.x)
    (both_true (tested_at m.p m.q (record { near = c.lo.y; far = c.hi.y; by = v.y; lo = b.lo.y; hi = b.hi.y }) m.y)
    (both_true (tested_at m.p m.q (record { near = c.lo.z; far = c.hi.z; by = v.z; lo = b.lo.z; hi = b.hi.z }) m.z) refl))))

-- fractions by their whole numbers
product_le : (t s : Fraction) (p q p' q' : ℕ) → t.num ≡ pos p → t.den ≡ pos q → s.num ≡ pos p' → s.den ≡ pos q'
    → p * q' ≤ p' * q → (t.num *ℤ s.den) ≤ℤ (s.num *ℤ t.den)
product_le t s p q p' q' e f g h le =
    let plain : (pos p *ℤ pos q') ≤ℤ (pos p' *ℤ pos q) = omega (arith, ints) in
    subst (λ (r : (ℤ × ℤ) × (ℤ × ℤ)). (r.0.0 *ℤ r.1.1) ≤ℤ (r.1.0 *ℤ r.0.1)) (λ i. ((sym e i, sym f i), (sym g i, sym h i))) plain

le_product : (t s : Fraction) (p q p' q' : ℕ) → t.num ≡ pos p → t.den ≡ pos q → s.num ≡ pos p' → s.den ≡ pos q'
    → (t.num *ℤ s.den) ≤ℤ (s.num *ℤ t.den) → p * q' ≤ p' * q
le_product t s p q p' q' e f g h le =
    let plain : (pos p *ℤ pos q') ≤ℤ (pos p' *ℤ pos q) =
    subst (λ (r : (ℤ × ℤ) × (ℤ × ℤ)). (r.0.0 *ℤ r.1.1) ≤ℤ (r.1.0 *ℤ r.0.1)) (λ i. ((e i, f i), (g i, h i))) le in
    omega (arith, ints)

is_above : (n : ℤ) (q : ℕ) → 0 < q → n ≡ pos q → pos 0 <ℤ n
is_above n q h e = omega (arith, ints)

level_is : (o : Ordering) → is_gt o ≡ false → is_gt (ordering_reverse o) ≡ false → is_eq o ≡ true
level_is Less e f = sym f
level_is Equal e f = refl
level_is Greater e f = sym e

module _ (laws : RayTold) (c : Bounds) (v : Point) (b : Bounds) where
  abbrev entry : Fraction
  entry = first origin (widened v) (widened_by b c)

  entry_first : IsTrue (in_cast c v b) → RayMeetsFirst origin (widened v) (widened_by b c) entry
  entry_first e =
      laws.entry origin (widened v) (widened_by b c) (first_so (in_ray origin (widened v) (widened_by b c)) (reached entry) (sym (met_law laws c v b) ∙ e))

  -- no fraction that fits is smaller than the entry
  none_sooner : (m : RayMeetsFirst origin (widened v) (widened_by b c) entry) (t : Fraction) → Fitting c v b t → is_gt (value_cmp entry t) ≡ false
  none_sooner m t f =
      let at : MeetsAt c v b t.num t.den = meets_at c v b t.num t.den f.above_zero f.fit in
      by_products entry t (is_above entry.den m.meets.q m.meets.above_zero m.den) f.above_zero
      (product_le entry t m.meets.p m.meets.q at.meets.p at.meets.q m.num m.den at.num_is at.den_is (m.least (ray_of c v b at.meets)))

  all_none_sooner : (m : RayMeetsFirst origin (widened v) (widened_by b c) entry) (xs : List Fraction) → AllByRecursion (Fitting c v b) xs
      → AllByRecursion (λ t. is_gt (value_cmp entry t) ≡ false) xs
  all_none_sooner m [] h = tt
  all_none_sooner m (x ∷ xs) h = (none_sooner m x h.0, all_none_sooner m xs h.1)

  -- the entry fits, and is a candidate
  entry_fits : IsTrue (in_cast c v b) → fits c v b entry ≡ true
  entry_fits e =
      let m : RayMeetsFirst origin (widened v) (widened_by b c) entry = entry_first e in
      let le : entry.num ≤ℤ entry.den =
      le_of_test entry.num entry.den (second_so (in_ray origin (widened v) (widened_by b c)) (reached entry) (sym (met_law laws c v b) ∙ e)) in
      let le' : pos m.meets.p ≤ℤ pos m.meets.q = subst (λ n. n ≤ℤ pos m.meets.q) m.num (subst (λ n. entry.num ≤ℤ n) m.den le) in
      let meets : CastMeets c v b = cast_of c v b (record { meets = m.meets; at_most_one = omega (arith, ints) }) in
      ap (fits c v b) (λ i. record { num = m.num i; den = m.den i }) ∙ fits_at c v b meets

  any_at_entry : (test : Fraction → Bool) → test entry ≡ true → list_any test (candidates c v b) ≡ true
  any_at_entry test h =
      let k : Contains (crossing.candidates (slabs c v b)) entry = laws.among origin (widened v) (widened_by b c) in
      ap (list_any test) (candidates_are c v b)
      ∙ list_any_at test (crossing.candidates (slabs c v b)) k.0 entry k.1 (ap test k.2 ∙ h)

  any_fitting : IsTrue (in_cast c v b) → (test : Fraction → Bool) → test entry ≡ true → list_any test (filter (fits c v b) (candidates c v b)) ≡ true
  any_fitting e test h =
      any_filtered (fits c v b) test (candidates c v b)
      ∙ any_at_entry (λ t. fits c v b t && test t) (λ i. entry_fits e i && h i)

  -- what is at most each of a list that the entry is in is at most the entry
  upto_entry : (t : Fraction) (xs : List Fraction) → ((test : Fraction → Bool) → test entry ≡ true → list_any test xs ≡ true)
      → list_any (λ x. is_gt (value_cmp t x)) xs ≡ false → is_gt (value_cmp t entry) ≡ false
  upto_entry t xs among none = elim (cases_Bool (is_gt (value_cmp t entry))) as (λ _. is_gt (value_cmp t entry) ≡ false) [
    | inl e ↦ let clash : true ≡ false = sym (among (λ x. is_gt (value_cmp t x)) e) ∙ none in let no : ⊥ = cc in absurd no
    | inr e ↦ e
  ]

  same_by : IsTrue (in_cast c v b) → (xs : List Fraction) → AllByRecursion (Fitting c v b) xs
      → ((test : Fraction → Bool) → test entry ≡ true → list_any test xs ≡ true) → IsSameValue (Some entry) (least xs)
  same_by e [] h among = let clash : false ≡ true = among (λ _. true) refl in let no : ⊥ = cc in no
  same_by e (x ∷ xs) h among =
      let m : RayMeetsFirst origin (widened v) (widened_by b c) entry = entry_first e in
      let low : Fraction = fold (ord_min value_cmp) x xs in
      let sooner : AllByRecursion (λ t. is_gt (value_cmp entry t) ≡ false) (x ∷ xs) = all_none_sooner m (x ∷ xs) h in
      level_is (value_cmp entry low) (one_of value_cmp (λ t. is_gt (value_cmp entry t) ≡ false) x xs sooner.0 sooner.1)
      (sym (ap is_gt (value_total.antisymm low entry)) ∙ upto_entry low (x ∷ xs) among (none_below value_cmp value_total x xs))

  pub same_value : IsTrue (in_cast c v b) → IsSameValue (Some entry) (first_contact c v b)
  unfolding first_contact
  same_value e =
      same_by e (filter (fits c v b) (candidates c v b)) (all_fitting c v b (candidates c v b) (omega (arith, ints), all_above (tracks c v b))) (any_fitting e)

  first_by : (xs : List Fraction) → AllByRecursion (Fitting c v b) xs
      → (IsTrue (in_cast c v b) → (test : Fraction → Bool) → test entry ≡ true → list_any test xs ≡ true) → IfSome (least xs) (CastMeetsFirst c v b)
  first_by [] h among = tt
  first_by (x ∷ xs) h among =
      let low : Fraction = fold (ord_min value_cmp) x xs in
      let fit : Fitting c v b low = one_of value_cmp (Fitting c v b) x xs h.0 h.1 in
      let at : MeetsAt c v b low.num low.den = meets_at c v b low.num low.den fit.above_zero fit.fit in
      let e : IsTrue (in_cast c v b) = (fraction_law laws c v b).1 at.meets in
      let m : RayMeetsFirst origin (widened v) (widened_by b c) entry = entry_first e in
      let hm : pos 0 <ℤ entry.den = is_above entry.den m.meets.q m.meets.above_zero m.den in
      record {
        meets = at.meets;
        num = at.num_is;
        den = at.den_is;
        least = λ other.
            let o : Fraction = record { num = pos other.p; den = pos other.q } in
            let ho : pos 0 <ℤ o.den = is_above (pos other.q) other.q other.above_zero refl in
            let later : is_gt (value_cmp entry o) ≡ false =
            by_products entry o hm ho (product_le entry o m.meets.p m.meets.q other.p other.q m.num m.den refl refl (m.least (ray_of c v b other))) in
            let sooner : is_gt (value_cmp low entry) ≡ false = upto_entry low (x ∷ xs) (among e) (none_below value_cmp value_total x xs) in
            le_product low o at.meets.p at.meets.q other.p other.q at.num_is at.den_is refl refl
            (no_later low o fit.above_zero ho (upto value_total low entry o sooner later));
      }

  pub first_meets : IfSome (first_contact c v b) (CastMeetsFirst c v b)
  unfolding first_contact
  first_meets =
      first_by (filter (fits c v b) (candidates c v b)) (all_fitting c v b (candidates c v b) (omega (arith, ints), all_above (tracks c v b))) any_fitting

-- some candidate is the least exactly where some fits
some_by : (p : Fraction → Bool) (xs : List Fraction) → is_some (least (filter p xs)) ≡ list_any p xs
some_by p [] = refl
some_by p (x ∷ xs) = elim (p x) as (λ t. is_some (least (cond t (x ∷ filter p xs) (filter p xs))) ≡ (t || list_any p xs)) [
  | true ↦ refl
  | false ↦ some_by p xs
]

pub some_law : (c : Bounds) (v : Point) (b : Bounds) → is_some (first_contact c v b) ≡ in_cast c v b
unfolding first_contact in_cast
some_law c v b = some_by (fits c v b) (candidates c v b)

none_same : (o : Option Fraction) → is_some o ≡ false → IsSameValue None o
none_same None e = tt
none_same (Some t) e = let clash : true ≡ false = e in let no : ⊥ = cc in no

pub none_law : (c : Bounds) (v : Point) (b : Bounds) → in_cast c v b ≡ false → IsSameValue None (first_contact c v b)
none_law c v b e = none_same (first_contact c v b) (some_law c v b ∙ e)
