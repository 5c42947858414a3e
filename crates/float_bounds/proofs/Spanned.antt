-- Serves proofs alone: intervals and boxes around floats, by their ends.
use Rattle.std.proofs.Common.{◌≡◌, ℕ, Bool, true, false, cond, ◌&&◌, ℤ, int_le, ◌≤ℤ◌, List, slice_index, Result, Ok, Err, refl, sym, ap}
use Rattle.std.proofs.Common.{subst, ◌∙◌, arith}
use Rattle.std.proofs.lemmas.Bool.{and_from, and_parts, cond-true, cond-false}
use Rattle.std.proofs.lemmas.Int.{ints}
use Rattle.fixed_box.specs.Fix.{floor_div}
use Rattle.fixed_box.specs.Bounds.{Bounds, meets, encloses}
use Rattle.fixed_box.specs.Point.{is_at_most}
use Rattle.float_bounds.specs.declared.float_fault.FloatFault.{FloatFault}
use Rattle.float_bounds.specs.declared.float_fault.FloatFault.TheVariants.{Inverted}
use Rattle.float_bounds.specs.declared.format.Format.{Format}
use Rattle.float_bounds.specs.declared.around.Span.{Span}
use Rattle.float_bounds.specs.Format.{raw_step}
use Rattle.float_bounds.specs.Value.{value, and_then}
use Rattle.float_bounds.specs.Rounding.{ceil_div, within_range, fix_below, fix_above}
use Rattle.float_bounds.specs.Order.{float_le, value_le, corner_le, floats_meet}
use Rattle.float_bounds.specs.Rank.{rank}
use Rattle.float_bounds.specs.Around.{span_around, box_of, box_around}
use Rattle.float_bounds.specs.Laws.{HoldsInterval, HoldsFloats}
use Rattle.float_bounds.proofs.Ranked.{ranked}
use Rattle.float_bounds.proofs.Bounding.{had, greatest, least, step_positive, below_above, below_bounds, above_bounds}
use Rattle.fixed_box.proofs.Numbers.{test_of_le, le_of_test}

-- a float with a raw number has a value
pub below_value : (f : Format) (bits : ℕ) (r : ℤ) → fix_below f bits ≡ Ok r → (v : ℤ) × (value f bits ≡ Ok v)
below_value f bits r e = let found = had (value f bits) (λ v. within_range (floor_div v (raw_step f))) r e in (found.0, found.1.0)

pub above_value : (f : Format) (bits : ℕ) (r : ℤ) → fix_above f bits ≡ Ok r → (v : ℤ) × (value f bits ≡ Ok v)
above_value f bits r e = let found = had (value f bits) (λ v. within_range (ceil_div v (raw_step f))) r e in (found.0, found.1.0)

float_le_is : (f : Format) (a b : ℕ) (v w : ℤ) → value f a ≡ Ok v → value f b ≡ Ok w → float_le f a b ≡ int_le v w
float_le_is f a b v w first second = λ i. value_le (first i) (second i)

-- floats with raw numbers are compared by their ranks
pub compared : (f : Format) (a b : ℕ) (r s : ℤ) → fix_below f a ≡ Ok r → fix_above f b ≡ Ok s → float_le f a b ≡ int_le (rank f a) (rank f b)
compared f a b r s low high =
    let v = below_value f a r low in
    let w = above_value f b s high in
    float_le_is f a b v.0 w.0 v.1 w.1 ∙ sym (ranked f a b v.0 w.0 v.1 w.1)

-- floats in order have raw numbers in order, the lower rounded down and the higher up
pub in_order : (f : Format) (a b : ℕ) (r s : ℤ) → fix_below f a ≡ Ok r → fix_above f b ≡ Ok s → float_le f a b ≡ true → r ≤ℤ s
in_order f a b r s low high le =
    let v = below_value f a r low in
    let w = above_value f b s high in
    below_above f a b v.0 w.0 r s v.1 w.1 low high (le_of_test v.0 w.0 (sym (float_le_is f a b v.0 w.0 v.1 w.1) ∙ le))

kept : (t : Bool) (p s : Span) → cond {A = Result Span FloatFault} t (Ok p) (Err Inverted) ≡ Ok s → p ≡ s
kept true p s e = cc
kept false p s e = absurd (cc)

-- an interval's ends are the rounded floats
pub ends : (f : Format) (lo hi : ℕ) (s : Span) → span_around f lo hi ≡ Ok s → (fix_below f lo ≡ Ok s.lo) × (fix_above f hi ≡ Ok s.hi)
ends f lo hi s e =
    let low = had (fix_below f lo)
    (λ low. and_then (λ high. cond {A = Result Span FloatFault} (float_le f lo hi) (Ok (record { lo = low; hi = high })) (Err Inverted))
    (fix_above f hi)) s e in
    let high = had (fix_above f hi)
    (λ high. cond {A = Result Span FloatFault} (float_le f lo hi) (Ok (record { lo = low.0; hi = high })) (Err Inverted)) s low.1.1 in
    let same : record { lo = low.0; hi = high.0 } ≡ s = kept (float_le f lo hi) _ s high.1.1 in
    (low.1.0 ∙ ap (λ (s : Span). Ok s.lo) same, high.1.0 ∙ ap (λ (s : Span). Ok s.hi) same)

-- an interval from its rounded ends
span_is : (f : Format) (lo hi : ℕ) (low high : ℤ) → fix_below f lo ≡ Ok low → fix_above f hi ≡ Ok high
    → span_around f lo hi ≡ cond {A = Result Span FloatFault} (float_le f lo hi) (Ok (record { lo = low; hi = high })) (Err Inverted)
span_is f lo hi low high first second =
    ap (λ o. and_then (λ low. and_then (λ high. cond {A = Result Span FloatFault} (float_le f lo hi) (Ok (record { lo = low; hi = high })) (Err Inverted))
    (fix_above f hi)) o) first
    ∙ ap (λ o. and_then (λ high. cond {A = Result Span FloatFault} (float_le f lo hi) (Ok (record { lo = low; hi = high })) (Err Inverted)) o) second

pub span_kept : (f : Format) (lo hi : ℕ) (low high l h : ℤ) → l ≡ low → h ≡ high → fix_below f lo ≡ Ok low → fix_above f hi ≡ Ok high
    → float_le f lo hi ≡ true → span_around f lo hi ≡ Ok (record { lo = l; hi = h })
span_kept f lo hi low high l h is_low is_high first second le =
    let P : ℤ → Type 0 = λ l. span_around f lo hi ≡ Ok (record { lo = l; hi = h }) in
    let Q : ℤ → Type 0 = λ h. span_around f lo hi ≡ Ok (record { lo = low; hi = h }) in
    subst P (sym is_low) (subst Q (sym is_high) (span_is f lo hi low high first second ∙ cond-true (float_le f lo hi) _ _ le))

pub span_refused : (f : Format) (lo hi : ℕ) (low high : ℤ) → fix_below f lo ≡ Ok low → fix_above f hi ≡ Ok high → float_le f lo hi ≡ false
    → span_around f lo hi ≡ Err Inverted
span_refused f lo hi low high first second le = span_is f lo hi low high first second ∙ cond-false (float_le f lo hi) _ _ le

-- the intervals of a box
record IsBoxed (f : Format) (lo hi : List ℕ) (b : Bounds) : Type 0 where
  x : Span
  y : Span
  z : Span
  on_x : span_around f (slice_index lo 0) (slice_index hi 0) ≡ Ok x
  on_y : span_around f (slice_index lo 1) (slice_index hi 1) ≡ Ok y
  on_z : span_around f (slice_index lo 2) (slice_index hi 2) ≡ Ok z
  whole : box_of x y z ≡ b

boxed : (f : Format) (lo hi : List ℕ) (b : Bounds) → box_around f lo hi ≡ Ok b → IsBoxed f lo hi b
boxed f lo hi b e =
    let x = had (span_around f (slice_index lo 0) (slice_index hi 0))
    (λ x. and_then (λ y. and_then (λ z. Ok (box_of x y z)) (span_around f (slice_index lo 2) (slice_index hi 2)))
    (span_around f (slice_index lo 1) (slice_index hi 1))) b e in
    let y = had (span_around f (slice_index lo 1) (slice_index hi 1))
    (λ y. and_then (λ z. Ok (box_of x.0 y z)) (span_around f (slice_index lo 2) (slice_index hi 2))) b x.1.1 in
    let z = had (span_around f (slice_index lo 2) (slice_index hi 2)) (λ z. Ok (box_of x.0 y.0 z)) b y.1.1 in
    record { x = x.0; y = y.0; z = z.0; on_x = x.1.0; on_y = y.1.0; on_z = z.1.0; whole = taken (box_of x.0 y.0 z.0) b (Ok (box_of x.0 y.0 z.0)) refl z.1.1 }
  where
    taken : (a b : Bounds) (r : Result Bounds FloatFault) → r ≡ Ok a → r ≡ Ok b → a ≡ b
    taken a b r e h = cc

interval_held : (f : Format) (lo hi : ℕ) (s : Span) → span_around f lo hi ≡ Ok s → HoldsInterval f s.lo s.hi lo hi
interval_held f lo hi s e v w first second =
    let rounded = ends f lo hi s e in
    ((below_bounds f lo v s.lo first rounded.0).at_most, (above_bounds f hi w s.hi second rounded.1).at_least)

-- the box holds the floats
pub held : (f : Format) (lo hi : List ℕ) (b : Bounds) → box_around f lo hi ≡ Ok b → HoldsFloats f b lo hi
held f lo hi b e =
    let a = boxed f lo hi b e in
    let P : Bounds → Type 0 = λ b. HoldsFloats f b lo hi in
    subst P a.whole (record { x = interval_held f _ _ a.x a.on_x; y = interval_held f _ _ a.y a.on_y; z = interval_held f _ _ a.z a.on_z })

-- an interval that holds the floats holds theirs
interval_least : (f : Format) (lo hi : ℕ) (s : Span) (low high : ℤ) → span_around f lo hi ≡ Ok s → HoldsInterval f low high lo hi
    → (int_le low s.lo ≡ true) × (int_le s.hi high ≡ true)
interval_least f lo hi s low high e holds =
    let rounded = ends f lo hi s e in
    let v = below_value f lo s.lo rounded.0 in
    let w = above_value f hi s.hi rounded.1 in
    let both = holds v.0 w.0 v.1 w.1 in (
      test_of_le low s.lo (greatest low v.0 s.lo (raw_step f) (step_positive f) (below_bounds f lo v.0 s.lo v.1 rounded.0) both.0),
      test_of_le s.hi high (least high w.0 s.hi (raw_step f) (step_positive f) (above_bounds f hi w.0 s.hi w.1 rounded.1) both.1),
    )

-- a box that holds the floats encloses theirs
pub least_box : (f : Format) (lo hi : List ℕ) (a b : Bounds) → box_around f lo hi ≡ Ok a → HoldsFloats f b lo hi → encloses b a ≡ true
least_box f lo hi a b e holds =
    let here = boxed f lo hi a e in
    let x = interval_least f _ _ here.x b.lo.x b.hi.x here.on_x holds.x in
    let y = interval_least f _ _ here.y b.lo.y b.hi.y here.on_y holds.y in
    let z = interval_least f _ _ here.z b.lo.z b.hi.z here.on_z holds.z in
    let P : Bounds → Type 0 = λ a. encloses b a ≡ true in
    subst P here.whole (and_from _ _ (three _ _ _ x.0 y.0 z.0) (three _ _ _ x.1 y.1 z.1))
  where
    three : (p q r : Bool) → p ≡ true → q ≡ true → r ≡ true → (p && q && r) ≡ true
    three p q r x y z = and_from (p && q) r (and_from p q x y) z

axis : (f : Format) (lo hi other_lo other_hi : ℕ) (s t : Span) → span_around f lo hi ≡ Ok s → span_around f other_lo other_hi ≡ Ok t
    → float_le f lo other_hi ≡ true → int_le s.lo t.hi ≡ true
axis f lo hi other_lo other_hi s t here there le =
    test_of_le s.lo t.hi (in_order f lo other_hi s.lo t.hi (ends f lo hi s here).0 (ends f other_lo other_hi t there).1 le)

corner : (f : Format) (lo hi other_lo other_hi : List ℕ) (a b : Bounds) → IsBoxed f lo hi a → IsBoxed f other_lo other_hi b
    → corner_le f lo other_hi ≡ true → is_at_most a.lo b.hi ≡ true
corner f lo hi other_lo other_hi a b here there le =
    let first = and_parts _ _ le in
    let second = and_parts _ _ first.0 in
    let x = axis f _ _ _ _ here.x there.x here.on_x there.on_x second.0 in
    let y = axis f _ _ _ _ here.y there.y here.on_y there.on_y second.1 in
    let z = axis f _ _ _ _ here.z there.z here.on_z there.on_z first.1 in
    (λ i. is_at_most (sym here.whole i).lo (sym there.whole i).hi)
    ∙ and_from (int_le here.x.lo there.x.hi && int_le here.y.lo there.y.hi) (int_le here.z.lo there.z.hi)
    (and_from (int_le here.x.lo there.x.hi) (int_le here.y.lo there.y.hi) x y) z

-- boxes around floats that meet do
pub still_meets : (f : Format) (lo hi other_lo other_hi : List ℕ) (a b : Bounds) → box_around f lo hi ≡ Ok a → box_around f other_lo other_hi ≡ Ok b
    → floats_meet f lo hi other_lo other_hi ≡ true → meets a b ≡ true
still_meets f lo hi other_lo other_hi a b here there meet =
    let both = and_parts (corner_le f lo other_hi) (corner_le f other_lo hi) meet in
    let this = boxed f lo hi a here in
    let that = boxed f other_lo other_hi b there in
    and_from (is_at_most a.lo b.hi) (is_at_most b.lo a.hi) (corner f lo hi other_lo other_hi a b this that both.0)
    (corner f other_lo other_hi lo hi b a that this both.1)

-- a float is at most itself, so that it is rounded down to at most what it is rounded up to
pub ordered : (f : Format) (bits : ℕ) (r s : ℤ) → fix_below f bits ≡ Ok r → fix_above f bits ≡ Ok s → r ≤ℤ s
ordered f bits r s low high =
    let v = below_value f bits r low in
    below_above f bits bits v.0 v.0 r s v.1 v.1 low high (omega (arith, ints))
