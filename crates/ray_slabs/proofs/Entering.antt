-- The greatest of some fractions, and that a line in all slabs has come to each.
use Rattle.std.proofs.Common.{◌≡◌, refl, sym, subst, ◌∙◌, Bool, true, false, cond, zero, suc, ℤ, pos, negsuc, ◌*ℤ◌, ◌≤ℤ◌, ◌<ℤ◌}
use Rattle.std.proofs.Common.{List, [], ◌∷◌, ◌++◌, arith, inl, inr}
use Rattle.std.specs.List.{flat_map, fold, list_all, AllByRecursion}
use Rattle.std.specs.Ordering.{is_lt, ord_max}
use Rattle.std.proofs.lemmas.Bool.{cases_Bool}
use Rattle.std.proofs.lemmas.Int.{ints}
use Rattle.std.proofs.lemmas.List.Folds.{list_all-append}
use Rattle.ray_slabs.specs.Crossing.{Slab, Fraction, fits}
use Rattle.ray_slabs.specs.First.{value_cmp, entries, entries_by}
use Rattle.ray_slabs.specs.FirstLaws.{lt_of_test, less_is, not_less}
use Rattle.ray_slabs.specs.Mirrored.{mirrored_by, enter, at_most}
use Rattle.ray_slabs.proofs.Order.{test_of_le, at_most_trans, at_most_refl}
use Rattle.ray_slabs.proofs.Passing.{all_of}
use Rattle.fixed_box.proofs.Bools.{and_left, and_right}
use Rattle.ray_slabs.proofs.Crossed.{come}
use Rattle.ray_slabs.proofs.Candidates.{AllAboveZero}

-- the greater of two is one of them
pub by_later : (P : Fraction → Type 0) (a b : Fraction) → pos 0 <ℤ a.den → pos 0 <ℤ b.den → (at_most b a ≡ true → P a) → (at_most a b ≡ true → P b)
    → P (ord_max value_cmp a b)
by_later P a b ha hb first second = elim (cases_Bool (is_lt (value_cmp b a))) as (λ _. P (ord_max value_cmp a b)) [
  | inl e ↦
      let lt : (b.num *ℤ a.den) <ℤ (a.num *ℤ b.den) = lt_of_test (b.num *ℤ a.den) (a.num *ℤ b.den) (sym (less_is b a hb ha) ∙ e) in
      subst (λ t. P (cond t a b)) (sym e) (first (test_of_le (b.num *ℤ a.den) (a.num *ℤ b.den) (omega (arith, ints))))
  | inr e ↦
      let le : (a.num *ℤ b.den) ≤ℤ (b.num *ℤ a.den) = not_less (b.num *ℤ a.den) (a.num *ℤ b.den) (sym (less_is b a hb ha) ∙ e) in
      subst (λ t. P (cond t a b)) (sym e) (second (test_of_le (a.num *ℤ b.den) (b.num *ℤ a.den) le))
]

abbrev greatest : Fraction → List Fraction → Fraction
greatest a es = fold (ord_max value_cmp) a es

-- it is one of them
pub one_of : (P : Fraction → Type 0) (a : Fraction) (es : List Fraction) → P a → AllByRecursion P es → P (greatest a es)
one_of P a [] h all = h
one_of P a (e ∷ es) h all = one_of P (ord_max value_cmp a e) es (either (is_lt (value_cmp e a))) all.1
  where
    either : (b : Bool) → P (cond b a e)
    either true = h
    either false = all.0

later_above_zero : (a b : Fraction) → pos 0 <ℤ a.den → pos 0 <ℤ b.den → pos 0 <ℤ (ord_max value_cmp a b).den
later_above_zero a b ha hb = by_later (λ t. pos 0 <ℤ t.den) a b ha hb (λ _. ha) (λ _. hb)

pub greatest_above_zero : (a : Fraction) (es : List Fraction) → pos 0 <ℤ a.den → AllAboveZero es → pos 0 <ℤ (greatest a es).den
greatest_above_zero a [] ha h = ha
greatest_above_zero a (e ∷ es) ha h = greatest_above_zero (ord_max value_cmp a e) es (later_above_zero a e ha h.0) h.1

-- it is at least each of them
pub from_first : (a : Fraction) (es : List Fraction) → pos 0 <ℤ a.den → AllAboveZero es → at_most a (greatest a es) ≡ true
from_first a [] ha h = at_most_refl a
from_first a (e ∷ es) ha h =
    let m : Fraction = ord_max value_cmp a e in
    let hm : pos 0 <ℤ m.den = later_above_zero a e ha h.0 in
    at_most_trans a m (greatest m es) ha hm (greatest_above_zero m es hm h.1)
    (by_later (λ t. at_most a t ≡ true) a e ha h.0 (λ _. at_most_refl a) (λ l. l)) (from_first m es hm h.1)

pub from_each : (a : Fraction) (es : List Fraction) → pos 0 <ℤ a.den → AllAboveZero es → list_all (λ e. at_most e (greatest a es)) es ≡ true
from_each a [] ha h = refl
from_each a (e ∷ es) ha h =
    let m : Fraction = ord_max value_cmp a e in
    let hm : pos 0 <ℤ m.den = later_above_zero a e ha h.0 in
    all_of (at_most e (greatest m es)) (list_all (λ e. at_most e (greatest m es)) es)
    (at_most_trans e m (greatest m es) h.0 hm (greatest_above_zero m es hm h.1)
    (by_later (λ t. at_most e t ≡ true) a e ha h.0 (λ l. l) (λ _. at_most_refl e)) (from_first m es hm h.1))
    (from_each m es hm h.1)

-- and at most what is at least each of them
pub to_bound : (a : Fraction) (es : List Fraction) (t : Fraction) → pos 0 <ℤ a.den → AllAboveZero es → at_most a t ≡ true
    → list_all (λ e. at_most e t) es ≡ true → at_most (greatest a es) t ≡ true
to_bound a [] t ha h at all = at
to_bound a (e ∷ es) t ha h at all =
    to_bound (ord_max value_cmp a e) es t (later_above_zero a e ha h.0) h.1
    (by_later (λ m. at_most m t ≡ true) a e ha h.0 (λ _. at) (λ _. and_left (at_most e t) (list_all (λ e. at_most e t) es) all))
    (and_right (at_most e t) (list_all (λ e. at_most e t) es) all)

entries_above_zero : (s : Slab) (d : ℤ) (rest : List Fraction) → AllAboveZero rest → AllAboveZero (entries_by d s ++ rest)
entries_above_zero s (pos zero) rest h = h
entries_above_zero s (pos (suc n)) rest h = (omega (arith, ints), h)
entries_above_zero s (negsuc n) rest h = (omega (arith, ints), h)

pub all_entries_above_zero : (ss : List Slab) → AllAboveZero (flat_map entries ss)
all_entries_above_zero [] = tt
all_entries_above_zero (s ∷ ss) = entries_above_zero s s.dir (flat_map entries ss) (all_entries_above_zero ss)

-- A line that is in a slab has come to it.
entered_by : (s : Slab) (d : ℤ) (t : Fraction) → at_most (enter (mirrored_by d s)) t ≡ true → list_all (λ e. at_most e t) (entries_by d s) ≡ true
entered_by s (pos zero) t h = refl
entered_by s (pos (suc n)) t h = all_of (at_most (enter (mirrored_by (pos (suc n)) s)) t) true h refl
entered_by s (negsuc n) t h = all_of (at_most (enter (mirrored_by (negsuc n) s)) t) true h refl

pub all_entered : (ss : List Slab) (t : Fraction) → list_all (fits t) ss ≡ true → list_all (λ e. at_most e t) (flat_map entries ss) ≡ true
all_entered [] t f = refl
all_entered (s ∷ ss) t f =
    list_all-append (λ e. at_most e t) (entries s) (flat_map entries ss)
    ∙ all_of (list_all (λ e. at_most e t) (entries s)) (list_all (λ e. at_most e t) (flat_map entries ss))
    (entered_by s s.dir t (come s t (and_left (fits t s) (list_all (fits t) ss) f))) (all_entered ss t (and_right (fits t s) (list_all (fits t) ss) f))
