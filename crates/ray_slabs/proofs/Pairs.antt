-- Intervals of a line have a common point where each two of them do: the greatest of 0 and the places where they begin.
use Rattle.std.proofs.Common.{◌≡◌, refl, sym, ◌∙◌, Bool, true, ◌&&◌, ◌||◌, zero, suc, ℤ, pos, negsuc, ◌-ℤ◌, ◌*ℤ◌, ◌≤ℤ◌, ◌<ℤ◌, int_le, int_lt}
use Rattle.std.proofs.Common.{List, [], ◌∷◌, ◌++◌, arith}
use Rattle.std.specs.List.{flat_map, list_all, AllByRecursion}
use Rattle.std.proofs.lemmas.Int.{ints}
use Rattle.std.proofs.lemmas.List.Folds.{list_all-append}
use Rattle.ray_slabs.specs.Crossing.{Slab, Fraction, fits, fits_ray, fits_seg}
use Rattle.ray_slabs.specs.First.{entries, entries_by, latest}
use Rattle.ray_slabs.specs.FirstLaws.{test_of_lt}
use Rattle.ray_slabs.specs.Mirrored.{MirroredSlab, mirrored_by, mirrored, enter, leave, at_most, is_ahead, is_on_way}
use Rattle.ray_slabs.proofs.Order.{scaled, unscaled, le_of_test, test_of_le, by_middle}
use Rattle.ray_slabs.proofs.Passing.{all_of, implied, implied_by_two}
use Rattle.fixed_box.proofs.Bools.{and_left, and_right}
use Rattle.ray_slabs.proofs.Crossed.{as_mirrored, way_low, come, not_left}
use Rattle.ray_slabs.proofs.Candidates.{AllAboveZero, start, from_start}
use Rattle.ray_slabs.proofs.Entering.{greatest_above_zero, from_first, from_each, all_entries_above_zero, one_of}

-- a line that is in two slabs at once enters one before it leaves the other
pub both_in : (t : Fraction) (a b : Slab) → pos 0 <ℤ t.den → fits t a ≡ true → fits t b ≡ true → at_most (enter (mirrored a)) (leave (mirrored b)) ≡ true
both_in t a b ht fa fb = by_middle (enter (mirrored a)) t (leave (mirrored b)) (way_low a) ht (way_low b) (come a t fa) (not_left b t fb)

-- it starts in a slab that it runs along
starts_in : (near way p q : ℤ) → pos 0 <ℤ q → pos 0 ≤ℤ way → (near *ℤ q) ≤ℤ (p *ℤ way) → (int_lt (pos 0) way || int_le near (pos 0)) ≡ true
starts_in near (pos zero) p q hq hw le = test_of_le near (pos 0) (unscaled near (pos 0) q hq (omega (arith, ints)))
starts_in near (pos (suc n)) p q hq hw le =
    let rises : int_lt (pos 0) (pos (suc n)) ≡ true = test_of_lt (pos 0) (pos (suc n)) (omega (arith, ints)) in
    λ i. rises i || int_le near (pos 0)
starts_in near (negsuc n) p q hq hw le = absurd (omega (arith, ints))

far_ahead : (far way p q : ℤ) → pos 0 <ℤ q → pos 0 ≤ℤ way → pos 0 ≤ℤ p → (p *ℤ way) ≤ℤ (far *ℤ q) → pos 0 ≤ℤ far
far_ahead far way p q hq hw hp le =
    let up : (pos 0 *ℤ way) ≤ℤ (p *ℤ way) = scaled (pos 0) p way hw hp in
    unscaled (pos 0) far q hq (omega (arith, ints))

near_on_way : (near way p q : ℤ) → pos 0 <ℤ q → pos 0 ≤ℤ way → p ≤ℤ q → (near *ℤ q) ≤ℤ (p *ℤ way) → near ≤ℤ way
near_on_way near way p q hq hw hp le =
    let up : (p *ℤ way) ≤ℤ (q *ℤ way) = scaled p q way hw hp in
    unscaled near way q hq (omega (arith, ints))

-- a slab that the line is in, from 0 on
pub ahead : (t : Fraction) (s : Slab) → pos 0 <ℤ t.den → pos 0 ≤ℤ t.num → fits t s ≡ true → is_ahead (mirrored s) ≡ true
ahead t s ht hn f =
    let a : MirroredSlab = mirrored s in
    let from : (a.near *ℤ t.den) ≤ℤ (t.num *ℤ a.way) = le_of_test (a.near *ℤ t.den) (t.num *ℤ a.way) (come s t f) in
    let to : (t.num *ℤ a.way) ≤ℤ (a.far *ℤ t.den) = le_of_test (t.num *ℤ a.way) (a.far *ℤ t.den) (not_left s t f) in
    all_of (int_le (pos 0) a.far) (int_lt (pos 0) a.way || int_le a.near (pos 0))
    (test_of_le (pos 0) a.far (far_ahead a.far a.way t.num t.den ht (way_low s) hn to))
    (starts_in a.near a.way t.num t.den ht (way_low s) from)

-- and up to 1
pub on_way : (t : Fraction) (s : Slab) → pos 0 <ℤ t.den → pos 0 ≤ℤ t.num → t.num ≤ℤ t.den → fits t s ≡ true → is_on_way (mirrored s) ≡ true
on_way t s ht hn hd f =
    let a : MirroredSlab = mirrored s in
    let from : (a.near *ℤ t.den) ≤ℤ (t.num *ℤ a.way) = le_of_test (a.near *ℤ t.den) (t.num *ℤ a.way) (come s t f) in
    let to : (t.num *ℤ a.way) ≤ℤ (a.far *ℤ t.den) = le_of_test (t.num *ℤ a.way) (a.far *ℤ t.den) (not_left s t f) in
    all_of (int_le (pos 0) a.far) (int_le a.near a.way)
    (test_of_le (pos 0) a.far (far_ahead a.far a.way t.num t.den ht (way_low s) hn to))
    (test_of_le a.near a.way (near_on_way a.near a.way t.num t.den ht (way_low s) hd from))

ahead_on_way : (s : Slab) → is_on_way (mirrored s) ≡ true → is_ahead (mirrored s) ≡ true
ahead_on_way s e =
    let a : MirroredSlab = mirrored s in
    let le : a.near ≤ℤ a.way = le_of_test a.near a.way (and_right (int_le (pos 0) a.far) (int_le a.near a.way) e) in
    all_of (int_le (pos 0) a.far) (int_lt (pos 0) a.way || int_le a.near (pos 0)) (and_left (int_le (pos 0) a.far) (int_le a.near a.way) e)
    (starts_in a.near a.way (pos 1) (pos 1) (omega (arith, ints)) (way_low s) (omega (arith, ints)))

-- Each two slabs overlap: each one is entered no later than each is left.
abbrev pub by_pairs : List Slab → Bool
by_pairs ss = list_all (λ b. list_all (λ a. at_most (enter (mirrored a)) (leave (mirrored b))) ss) ss

-- A common point shows it.
pairs_of : (ss : List Slab) (t : Fraction) → pos 0 <ℤ t.den → list_all (fits t) ss ≡ true → by_pairs ss ≡ true
pairs_of ss t ht all =
    implied (fits t) (λ b. list_all (λ a. at_most (enter (mirrored a)) (leave (mirrored b))) ss)
    (λ b fb. implied (fits t) (λ a. at_most (enter (mirrored a)) (leave (mirrored b))) (λ a fa. both_in t a b ht fa fb) ss all) ss all

-- what holds of where each slab is entered holds of each entry
each_entry : (P : Fraction → Type 0) (s : Slab) (d : ℤ) (es : List Fraction) → P (enter (mirrored_by d s)) → AllByRecursion P es
    → AllByRecursion P (entries_by d s ++ es)
each_entry P s (pos zero) es h all = all
each_entry P s (pos (suc n)) es h all = (h, all)
each_entry P s (negsuc n) es h all = (h, all)

all_entries : (T : Fraction → Bool) (ss : List Slab) → list_all (λ s. T (enter (mirrored s))) ss ≡ true → AllByRecursion (λ t. T t ≡ true) (flat_map entries ss)
all_entries T [] e = tt
all_entries T (s ∷ ss) e =
    each_entry (λ t. T t ≡ true) s s.dir (flat_map entries ss) (and_left (T (enter (mirrored s))) (list_all (λ s. T (enter (mirrored s))) ss) e)
    (all_entries T ss (and_right (T (enter (mirrored s))) (list_all (λ s. T (enter (mirrored s))) ss) e))

-- Where the slabs overlap by pairs, the line has left none when it has come to the last.
in_time : (ss : List Slab) (b : Slab) → is_ahead (mirrored b) ≡ true → list_all (λ a. at_most (enter (mirrored a)) (leave (mirrored b))) ss ≡ true
    → at_most (latest start ss) (leave (mirrored b)) ≡ true
in_time ss b h pairs =
    let m : MirroredSlab = mirrored b in
    let far : pos 0 ≤ℤ m.far = le_of_test (pos 0) m.far (and_left (int_le (pos 0) m.far) (int_lt (pos 0) m.way || int_le m.near (pos 0)) h) in
    one_of (λ t. at_most t (leave m) ≡ true) start (flat_map entries ss) (test_of_le (pos 0 *ℤ m.way) (m.far *ℤ pos 1) (omega (arith, ints)))
    (all_entries (λ t. at_most t (leave m)) ss pairs)

-- past its entry, the line has come to the slab
come_by : (s : Slab) (d : ℤ) (t : Fraction) → pos 0 <ℤ t.den → is_ahead (mirrored_by d s) ≡ true → list_all (λ e. at_most e t) (entries_by d s) ≡ true
    → at_most (enter (mirrored_by d s)) t ≡ true
come_by s (pos zero) t ht h past =
    let near : ℤ = s.lo -ℤ s.from in
    let le : near ≤ℤ pos 0 = le_of_test near (pos 0) (and_right (int_le (pos 0) (s.hi -ℤ s.from)) (int_le near (pos 0)) h) in
    let down : (near *ℤ t.den) ≤ℤ (pos 0 *ℤ t.den) = scaled near (pos 0) t.den (omega (arith, ints)) le in
    test_of_le (near *ℤ t.den) (t.num *ℤ pos 0) (omega (arith, ints))
come_by s (pos (suc n)) t ht h past = and_left (at_most (enter (mirrored_by (pos (suc n)) s)) t) true past
come_by s (negsuc n) t ht h past = and_left (at_most (enter (mirrored_by (negsuc n) s)) t) true past

all_in : (ss : List Slab) (t : Fraction) → pos 0 <ℤ t.den → list_all (λ s. is_ahead (mirrored s)) ss ≡ true
    → list_all (λ e. at_most e t) (flat_map entries ss) ≡ true → list_all (λ s. at_most t (leave (mirrored s))) ss ≡ true → list_all (fits t) ss ≡ true
all_in [] t ht h past left = refl
all_in (s ∷ ss) t ht h past left =
    let both : (list_all (λ e. at_most e t) (entries s) && list_all (λ e. at_most e t) (flat_map entries ss)) ≡ true =
    sym (list_all-append (λ e. at_most e t) (entries s) (flat_map entries ss)) ∙ past in
    let own : at_most (enter (mirrored s)) t ≡ true = come_by s s.dir t ht (and_left (is_ahead (mirrored s)) (list_all (λ s. is_ahead (mirrored s)) ss) h)
    (and_left (list_all (λ e. at_most e t) (entries s)) (list_all (λ e. at_most e t) (flat_map entries ss)) both) in
    all_of (fits t s) (list_all (fits t) ss)
    (as_mirrored t s ∙ all_of (at_most (enter (mirrored s)) t) (at_most t (leave (mirrored s))) own
    (and_left (at_most t (leave (mirrored s))) (list_all (λ s. at_most t (leave (mirrored s))) ss) left))
    (all_in ss t ht (and_right (is_ahead (mirrored s)) (list_all (λ s. is_ahead (mirrored s)) ss) h)
    (and_right (list_all (λ e. at_most e t) (entries s)) (list_all (λ e. at_most e t) (flat_map entries ss)) both)
    (and_right (at_most t (leave (mirrored s))) (list_all (λ s. at_most t (leave (mirrored s))) ss) left))

pub latest_above_zero : (ss : List Slab) → pos 0 <ℤ (latest start ss).den
latest_above_zero ss = greatest_above_zero start (flat_map entries ss) (omega (arith, ints)) (all_entries_above_zero ss)

-- So the greatest of 0 and the entries is a common point.
pub latest_fits : (ss : List Slab) → list_all (λ s. is_ahead (mirrored s)) ss ≡ true → by_pairs ss ≡ true → fits_ray ss (latest start ss) ≡ true
latest_fits ss h pairs =
    let m : Fraction = latest start ss in
    let above : AllAboveZero (flat_map entries ss) = all_entries_above_zero ss in
    all_of (int_le (pos 0) m.num) (list_all (fits m) ss) (sym (from_start m) ∙ from_first start (flat_map entries ss) (omega (arith, ints)) above)
    (all_in ss m (latest_above_zero ss) h (from_each start (flat_map entries ss) (omega (arith, ints)) above)
    (implied_by_two (λ s. is_ahead (mirrored s)) (λ b. list_all (λ a. at_most (enter (mirrored a)) (leave (mirrored b))) ss)
    (λ b. at_most m (leave (mirrored b))) (λ b. in_time ss b) ss h pairs))

-- And one that is at most 1 where each slab comes by then.
pub latest_fits_seg : (ss : List Slab) → list_all (λ s. is_on_way (mirrored s)) ss ≡ true → by_pairs ss ≡ true → fits_seg ss (latest start ss) ≡ true
latest_fits_seg ss h pairs =
    let m : Fraction = latest start ss in
    all_of (int_le m.num m.den) (fits_ray ss m)
    (one_of (λ t. int_le t.num t.den ≡ true) start (flat_map entries ss) refl
    (all_entries (λ t. int_le t.num t.den) ss
    (implied (λ s. is_on_way (mirrored s)) (λ s. int_le (mirrored s).near (mirrored s).way)
    (λ s e. and_right (int_le (pos 0) (mirrored s).far) (int_le (mirrored s).near (mirrored s).way) e) ss h)))
    (latest_fits ss (implied (λ s. is_on_way (mirrored s)) (λ s. is_ahead (mirrored s)) ahead_on_way ss h) pairs)

-- Where some fraction fits, the greatest does.
pub first_fits : (ss : List Slab) (t : Fraction) → pos 0 <ℤ t.den → fits_ray ss t ≡ true → fits_ray ss (latest start ss) ≡ true
first_fits ss t ht f =
    let hn : pos 0 ≤ℤ t.num = le_of_test (pos 0) t.num (and_left (int_le (pos 0) t.num) (list_all (fits t) ss) f) in
    let all : list_all (fits t) ss ≡ true = and_right (int_le (pos 0) t.num) (list_all (fits t) ss) f in
    latest_fits ss (implied (fits t) (λ s. is_ahead (mirrored s)) (λ s. ahead t s ht hn) ss all) (pairs_of ss t ht all)
