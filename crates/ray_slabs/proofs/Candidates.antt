-- Some candidate fits exactly where some fraction does.
use Rattle.std.proofs.Common.{◌≡◌, refl, sym, ap, ◌∙◌, Bool, true, false, ◌&&◌, ◌||◌, zero, suc, ℤ, pos, negsuc, neg_ℤ, ◌-ℤ◌, ◌*ℤ◌, ◌<ℤ◌, int_le}
use Rattle.std.proofs.Common.{List, [], ◌∷◌, ◌++◌, arith}
use Rattle.std.specs.List.{flat_map, list_all, list_any}
use Rattle.std.proofs.lemmas.Int.{ints}
use Rattle.std.proofs.lemmas.List.Folds.{list_any-append}
use Rattle.ray_slabs.specs.Crossing.{Slab, Fraction, fits, crossings, crossings_by, candidates, fits_ray, fits_seg}
use Rattle.ray_slabs.specs.Mirrored.{at_most}
use Rattle.ray_slabs.proofs.Order.{same_le, at_most_trans, at_most_refl, at_most_total}
use Rattle.ray_slabs.proofs.Crossed.{along, rising, falling}
use Rattle.ray_slabs.proofs.Passing.{all_of}
use Rattle.fixed_box.proofs.Bools.{and_left, and_right}

-- the fractions that fit a slab: all or none, or those from one crossing to another
data Fit (s : Slab) : Type 0 where
  level : (b : Bool) → ((t : Fraction) → pos 0 <ℤ t.den → fits t s ≡ b) → Fit s
  crossed : (enter leave : Fraction) → pos 0 <ℤ enter.den → pos 0 <ℤ leave.den
      → ((P : Fraction → Bool) → P enter ≡ true → list_any P (crossings s) ≡ true)
      → ((t : Fraction) → pos 0 <ℤ t.den → fits t s ≡ (at_most enter t && at_most t leave)) → Fit s

or_true : (x y : Bool) → y ≡ true → (x || y) ≡ true
or_true true y h = refl
or_true false y h = h

true_or : (x y : Bool) → x ≡ true → (x || y) ≡ true
true_or true y h = refl
true_or false true h = refl
true_or false false h = h

fit_by : (s : Slab) (d : ℤ) → s.dir ≡ d → Fit s
fit_by s (pos zero) e = level (int_le s.lo s.from && int_le s.from s.hi) (λ t h. along t s h e)
fit_by s (pos (suc n)) e =
    let enter : Fraction = record { num = s.lo -ℤ s.from; den = pos (suc n) } in
    let leave : Fraction = record { num = s.hi -ℤ s.from; den = pos (suc n) } in
    crossed enter leave (omega (arith, ints)) (omega (arith, ints))
    (λ P h. ap (λ d. list_any P (crossings_by d s)) e ∙ true_or (P enter) (P leave || false) h)
    (λ t h. rising t s enter leave (λ i. record { num = s.lo -ℤ s.from; den = sym e i }) (λ i. record { num = s.hi -ℤ s.from; den = sym e i }))
fit_by s (negsuc n) e =
    let enter : Fraction = record { num = s.from -ℤ s.hi; den = pos (suc n) } in
    let leave : Fraction = record { num = s.from -ℤ s.lo; den = pos (suc n) } in
    crossed enter leave (omega (arith, ints)) (omega (arith, ints))
    (λ P h. ap (λ d. list_any P (crossings_by d s)) e ∙ or_true (P leave) (P enter || false) (true_or (P enter) false h))
    (λ t h. falling t s enter leave (λ i. record { num = s.from -ℤ s.hi; den = neg_ℤ (sym e i) }) (λ i. record { num = s.from -ℤ s.lo; den = neg_ℤ (sym e i) }))

fit : (s : Slab) → Fit s
fit s = fit_by s s.dir refl

-- Between two fractions that fit a slab each one does.
convex : (s : Slab) (a t c : Fraction) → pos 0 <ℤ a.den → pos 0 <ℤ t.den → pos 0 <ℤ c.den
    → at_most a t ≡ true → at_most t c ≡ true → fits a s ≡ true → fits c s ≡ true → fits t s ≡ true
convex s a t c ha ht hc at tc fa fc =
    elim (fit s) [
      | level b same ↦ same t ht ∙ sym (same a ha) ∙ fa
      | crossed enter leave he hl among is ↦
          let from : at_most enter a ≡ true = and_left (at_most enter a) (at_most a leave) (sym (is a ha) ∙ fa) in
          let to : at_most c leave ≡ true = and_right (at_most enter c) (at_most c leave) (sym (is c hc) ∙ fc) in
          is t ht ∙ all_of (at_most enter t) (at_most t leave) (at_most_trans enter a t he ha ht from at) (at_most_trans t c leave ht hc hl tc to)
    ]

all_convex : (ss : List Slab) (a t c : Fraction) → pos 0 <ℤ a.den → pos 0 <ℤ t.den → pos 0 <ℤ c.den
    → at_most a t ≡ true → at_most t c ≡ true → list_all (fits a) ss ≡ true → list_all (fits c) ss ≡ true → list_all (fits t) ss ≡ true
all_convex [] a t c ha ht hc at tc fa fc = refl
all_convex (s ∷ ss) a t c ha ht hc at tc fa fc =
    all_of (fits t s) (list_all (fits t) ss)
    (convex s a t c ha ht hc at tc (and_left (fits a s) (list_all (fits a) ss) fa) (and_left (fits c s) (list_all (fits c) ss) fc))
    (all_convex ss a t c ha ht hc at tc (and_right (fits a s) (list_all (fits a) ss) fa) (and_right (fits c s) (list_all (fits c) ss) fc))

-- the fraction 0
abbrev pub start : Fraction
start = record { num = pos 0; den = pos 1 }

-- A candidate from 0 on, and no later than t, that fits each slab.
pub record Candidate (ss : List Slab) (t : Fraction) : Type 0 where
  pub place : Fraction
  pub above_zero : pos 0 <ℤ place.den
  pub ahead : at_most start place ≡ true
  pub no_later : at_most place t ≡ true
  pub all_fit : list_all (fits place) ss ≡ true
  pub among : (P : Fraction → Bool) → P place ≡ true → (P start || list_any P (flat_map crossings ss)) ≡ true

or_more : (x y z : Bool) → (x || z) ≡ true → (x || (y || z)) ≡ true
or_more true y z h = refl
or_more false y z h = or_true y z h

not_first : (x y : Bool) → y ≡ true → (x && y) ≡ false → x ≡ false
not_first true y h e = sym h ∙ e
not_first false y h e = refl

-- one slab more
more : (s : Slab) (ss : List Slab) (t : Fraction) → pos 0 <ℤ t.den → fits t s ≡ true → list_all (fits t) ss ≡ true → (c : Candidate ss t) → (b : Bool)
    → fits c.place s ≡ b → Candidate (s ∷ ss) t
more s ss t ht ft fts c true e = record {
  place = c.place;
  above_zero = c.above_zero;
  ahead = c.ahead;
  no_later = c.no_later;
  all_fit = all_of (fits c.place s) (list_all (fits c.place) ss) e c.all_fit;
  among = λ P h. ap (λ b. P start || b) (list_any-append P (crossings s) (flat_map crossings ss))
      ∙ or_more (P start) (list_any P (crossings s)) (list_any P (flat_map crossings ss)) (c.among P h);
}
more s ss t ht ft fts c false e =
    elim (fit s) [
      | level b same ↦
          let clash : true ≡ false = sym ft ∙ same t ht ∙ sym (same c.place c.above_zero) ∙ e in
          let no : ⊥ = cc in absurd no
      | crossed enter leave he hl among is ↦
          let from : at_most enter t ≡ true = and_left (at_most enter t) (at_most t leave) (sym (is t ht) ∙ ft) in
          let to : at_most t leave ≡ true = and_right (at_most enter t) (at_most t leave) (sym (is t ht) ∙ ft) in
          let inside : at_most c.place leave ≡ true = at_most_trans c.place t leave c.above_zero ht hl c.no_later to in
          let outside : at_most enter c.place ≡ false = not_first (at_most enter c.place) (at_most c.place leave) inside (sym (is c.place c.above_zero) ∙ e) in
          let before : at_most c.place enter ≡ true = at_most_total enter c.place outside in
          let own : fits enter s ≡ true = is enter he ∙ all_of (at_most enter enter) (at_most enter leave) (at_most_refl enter)
          (at_most_trans enter t leave he ht hl from to) in
          record {
            place = enter;
            above_zero = he;
            ahead = at_most_trans start c.place enter (omega (arith, ints)) c.above_zero he c.ahead before;
            no_later = from;
            all_fit = all_of (fits enter s) (list_all (fits enter) ss) own (all_convex ss c.place enter t c.above_zero he ht before from c.all_fit fts);
            among = λ P h. ap (λ b. P start || b) (list_any-append P (crossings s) (flat_map crossings ss))
                ∙ or_true (P start) (list_any P (crossings s) || list_any P (flat_map crossings ss))
                (true_or (list_any P (crossings s)) (list_any P (flat_map crossings ss)) (among P h));
          }
    ]

pub candidate : (ss : List Slab) (t : Fraction) → pos 0 <ℤ t.den → at_most start t ≡ true → list_all (fits t) ss ≡ true → Candidate ss t
candidate [] t ht h f = record {
  place = start;
  above_zero = omega (arith, ints);
  ahead = at_most_refl start;
  no_later = h;
  all_fit = refl;
  among = λ P h. true_or (P start) false h;
}
candidate (s ∷ ss) t ht h f =
    let c : Candidate ss t = candidate ss t ht h (and_right (fits t s) (list_all (fits t) ss) f) in
    more s ss t ht (and_left (fits t s) (list_all (fits t) ss) f) (and_right (fits t s) (list_all (fits t) ss) f) c (fits c.place s) refl

-- a fraction that passes a test
pub record Found (Q : Fraction → Bool) : Type 0 where
  pub place : Fraction
  pub above_zero : pos 0 <ℤ place.den
  pub passes : Q place ≡ true

-- each has a denominator above 0
abbrev pub AllAboveZero : List Fraction → Type 0
AllAboveZero [] = Unit {0}
AllAboveZero (x ∷ xs) = (pos 0 <ℤ x.den) × AllAboveZero xs

found_by : (Q : Fraction → Bool) (x : Fraction) (rest : Bool) → pos 0 <ℤ x.den → (rest ≡ true → Found Q) → (b : Bool) → Q x ≡ b → (b || rest) ≡ true → Found Q
found_by Q x rest h later true e f = record { place = x; above_zero = h; passes = e }
found_by Q x rest h later false e f = later f

found : (Q : Fraction → Bool) (xs : List Fraction) → AllAboveZero xs → list_any Q xs ≡ true → Found Q
found Q [] h e = let no : ⊥ = cc in absurd no
found Q (x ∷ xs) h e = found_by Q x (list_any Q xs) h.0 (found Q xs h.1) (Q x) refl e

crossings_above_zero : (s : Slab) (d : ℤ) (rest : List Fraction) → AllAboveZero rest → AllAboveZero (crossings_by d s ++ rest)
crossings_above_zero s (pos zero) rest h = h
crossings_above_zero s (pos (suc n)) rest h = (omega (arith, ints), (omega (arith, ints), h))
crossings_above_zero s (negsuc n) rest h = (omega (arith, ints), (omega (arith, ints), h))

all_above_zero : (ss : List Slab) → AllAboveZero (flat_map crossings ss)
all_above_zero [] = tt
all_above_zero (s ∷ ss) = crossings_above_zero s s.dir (flat_map crossings ss) (all_above_zero ss)

pub found_among : (Q : Fraction → Bool) (ss : List Slab) → list_any Q (candidates ss) ≡ true → Found Q
found_among Q ss e = found Q (candidates ss) (omega (arith, ints), all_above_zero ss) e

-- 0 and 1 as bounds
pub from_start : (t : Fraction) → at_most start t ≡ int_le (pos 0) t.num
from_start t = same_le (pos 0 *ℤ t.den) (t.num *ℤ pos 1) (pos 0) t.num (omega (arith, ints))

-- the fraction 1
abbrev pub finish : Fraction
finish = record { num = pos 1; den = pos 1 }

pub to_finish : (t : Fraction) → at_most t finish ≡ int_le t.num t.den
to_finish t = same_le (t.num *ℤ pos 1) (pos 1 *ℤ t.den) t.num t.den (omega (arith, ints))

-- A fraction that fits shows a candidate that does.
pub ray_candidate : (ss : List Slab) (t : Fraction) → pos 0 <ℤ t.den → fits_ray ss t ≡ true → list_any (fits_ray ss) (candidates ss) ≡ true
ray_candidate ss t ht f =
    let c : Candidate ss t = candidate ss t ht (from_start t ∙ and_left (int_le (pos 0) t.num) (list_all (fits t) ss) f)
    (and_right (int_le (pos 0) t.num) (list_all (fits t) ss) f) in
    c.among (fits_ray ss) (all_of (int_le (pos 0) c.place.num) (list_all (fits c.place) ss) (sym (from_start c.place) ∙ c.ahead) c.all_fit)

pub seg_candidate : (ss : List Slab) (t : Fraction) → pos 0 <ℤ t.den → fits_seg ss t ≡ true → list_any (fits_seg ss) (candidates ss) ≡ true
seg_candidate ss t ht f =
    let ahead : fits_ray ss t ≡ true = and_right (int_le t.num t.den) (fits_ray ss t) f in
    let c : Candidate ss t = candidate ss t ht (from_start t ∙ and_left (int_le (pos 0) t.num) (list_all (fits t) ss) ahead)
    (and_right (int_le (pos 0) t.num) (list_all (fits t) ss) ahead) in
    let bound : at_most t finish ≡ true = to_finish t ∙ and_left (int_le t.num t.den) (fits_ray ss t) f in
    let within : at_most c.place finish ≡ true = at_most_trans c.place t finish c.above_zero ht (omega (arith, ints)) c.no_later bound in
    c.among (fits_seg ss) (all_of (int_le c.place.num c.place.den) (fits_ray ss c.place) (sym (to_finish c.place) ∙ within)
    (all_of (int_le (pos 0) c.place.num) (list_all (fits c.place) ss) (sym (from_start c.place) ∙ c.ahead) c.all_fit))
