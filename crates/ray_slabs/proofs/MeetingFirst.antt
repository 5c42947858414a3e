-- Where a ray is first in a box, in the words of the law.
use Rattle.std.proofs.Common.{◌≡◌, ℕ, zero, suc, refl, sym, subst, ◌∙◌, ◌*◌, ◌<◌, ◌≤◌, true, ℤ, pos, negsuc, ◌-ℤ◌, ◌*ℤ◌, ◌≤ℤ◌, ◌<ℤ◌, int_le, IsTrue}
use Rattle.std.proofs.Common.{List, [], ◌∷◌, ◌++◌, arith}
use Rattle.std.specs.List.{flat_map, list_all, AllByRecursion, Contains}
use Rattle.std.proofs.lemmas.List.Elements.{Contains-append_right}
use Rattle.std.proofs.lemmas.Int.{ints}
use Rattle.ray_slabs.specs.Vector.{Vector}
use Rattle.ray_slabs.specs.WideBounds.{WideBounds}
use Rattle.ray_slabs.specs.Crossing.{Slab, Fraction, fits, crossings, crossings_by, candidates, slabs_of, fits_ray, in_ray}
use Rattle.ray_slabs.specs.First.{entries, entries_by, latest, first}
use Rattle.ray_slabs.specs.Mirrored.{at_most}
use Rattle.ray_slabs.specs.Law.{RayMeetsFirst}
use Rattle.ray_slabs.proofs.Order.{le_of_test}
use Rattle.fixed_box.proofs.Bools.{and_left, and_right}
use Rattle.ray_slabs.proofs.Candidates.{Found, found_among, from_start, start}
use Rattle.ray_slabs.proofs.Entering.{greatest_above_zero, to_bound, all_entries_above_zero, all_entered, one_of}
use Rattle.ray_slabs.proofs.Pairs.{first_fits}
use Rattle.ray_slabs.proofs.Meeting.{Numbers, numbers, fitted}

-- no fraction from 0 on that fits is smaller
no_sooner : (ss : List Slab) (t : Fraction) → pos 0 <ℤ t.den → fits_ray ss t ≡ true → at_most (latest start ss) t ≡ true
no_sooner ss t ht f =
    to_bound start (flat_map entries ss) t (omega (arith, ints)) (all_entries_above_zero ss)
    (from_start t ∙ and_left (int_le (pos 0) t.num) (list_all (fits t) ss) f)
    (all_entered ss t (and_right (int_le (pos 0) t.num) (list_all (fits t) ss) f))

-- in whole numbers from 0 on
in_naturals : (p q p' q' : ℕ) (num den : ℤ) → pos p ≡ num → pos q ≡ den → (num *ℤ pos q') ≤ℤ (pos p' *ℤ den) → p * q' ≤ p' * q
in_naturals p q p' q' num den e f le =
    let same : (pos p *ℤ pos q') ≤ℤ (pos p' *ℤ pos q) = subst (λ i. (i *ℤ pos q') ≤ℤ (pos p' *ℤ pos q)) (sym e)
    (subst (λ i. (num *ℤ pos q') ≤ℤ (pos p' *ℤ i)) (sym f) le) in
    omega (arith, ints)

pub first_law : (f d : Vector) (b : WideBounds) → IsTrue (in_ray f d b) → RayMeetsFirst f d b (first f d b)
unfolding in_ray first
first_law f d b some =
    let ss : List Slab = slabs_of f d b in
    let t : Found (fits_ray ss) = found_among (fits_ray ss) ss some in
    let m : Fraction = latest start ss in
    let hm : pos 0 <ℤ m.den = greatest_above_zero start (flat_map entries ss) (omega (arith, ints)) (all_entries_above_zero ss) in
    let n : Numbers f d b m.num m.den = numbers f d b m.num m.den hm (first_fits ss t.place t.above_zero t.passes) in
    record {
      meets = n.meets;
      num = sym n.num_is;
      den = sym n.den_is;
      least = λ other.
          let q : 0 < other.q = other.above_zero in
          let no : at_most m (record { num = pos other.p; den = pos other.q }) ≡ true =
          no_sooner ss (record { num = pos other.p; den = pos other.q }) (omega (arith, ints)) (fitted f d b other) in
          in_naturals n.meets.p n.meets.q other.p other.q m.num m.den n.num_is n.den_is (le_of_test (m.num *ℤ pos other.q) (pos other.p *ℤ m.den) no);
    }

-- entries are crossings
each_by : (xs : List Fraction) (s : Slab) (d : ℤ) (es cs : List Fraction) → ((t : Fraction) → Contains (crossings_by d s ++ cs) t → Contains xs t)
    → AllByRecursion (Contains xs) es → AllByRecursion (Contains xs) (entries_by d s ++ es)
each_by xs s (pos zero) es cs into all = all
each_by xs s (pos (suc n)) es cs into all = (into (record { num = s.lo -ℤ s.from; den = pos (suc n) }) (0, omega arith, refl), all)
each_by xs s (negsuc n) es cs into all = (into (record { num = s.from -ℤ s.hi; den = pos (suc n) }) (1, omega arith, refl), all)

each : (xs : List Fraction) (ss : List Slab) → ((t : Fraction) → Contains (flat_map crossings ss) t → Contains xs t)
    → AllByRecursion (Contains xs) (flat_map entries ss)
each xs [] into = tt
each xs (s ∷ ss) into =
    each_by xs s s.dir (flat_map entries ss) (flat_map crossings ss) into
    (each xs ss (λ t h. into t (Contains-append_right (crossings s) (flat_map crossings ss) t h)))

pub first_candidate : (f d : Vector) (b : WideBounds) → Contains (candidates (slabs_of f d b)) (first f d b)
unfolding first
first_candidate f d b =
    let ss : List Slab = slabs_of f d b in
    one_of (Contains (candidates ss)) start (flat_map entries ss) (0, omega arith, refl)
    (each (candidates ss) ss (λ t h. Contains-append_right (start ∷ []) (flat_map crossings ss) t h))
