-- Comparisons of eight signed numbers at once, as lists of truth values.
use Rattle.std.proofs.Common.{◌≡◌, ℕ, zero, suc, ◌+◌, ◌≤◌, ℤ, int_le, Bool, true, false, cond, ◌&&◌, List, [], ◌∷◌, length, map, take, drop}
use Rattle.std.proofs.Common.{replicate, w32, SFits, of_z, to_z, refl, ap, ap₂, ◌∙◌, arith}
use Rattle.std.proofs.Common.{length-take, length-drop}
use Rattle.std.specs.Simd.Lanes.{zip2, Each1, top}
use Rattle.std.proofs.lemmas.Int.{to_z-of_z}
use Rattle.std.proofs.lemmas.Simd.{Each1-chunk}
use borrow.Rule.Simd.Lanes.{act2}
use borrow.Table.Row.{s_int}
use mir.Syntax.{mask, le, signed, bit_and}
use Rattle.lane_boxes.specs.declared.span.Span.{Span}
use Rattle.lane_boxes.specs.Spans.{crosses, lane, spans_of}
use Rattle.lane_boxes.proofs.Beside.{beside_drop, beside_take}
use Rattle.lane_boxes.proofs.SpanLists.{span}

abbrev pub lane_le : ℕ → ℕ → ℕ
lane_le = act2 (mask (le signed)) (s_int w32) (s_int w32) (s_int w32)

abbrev pub lane_and : ℕ → ℕ → ℕ
lane_and = act2 bit_and (s_int w32) (s_int w32) (s_int w32)

-- the bits of a lane
abbrev pub full : Bool → ℕ
full b = cond b 4294967295 0

one_le : (a b : ℤ) → SFits w32 a → SFits w32 b → lane_le (of_z w32 a) (of_z w32 b) ≡ full (int_le a b)
one_le a b h k = rw (to_z-of_z w32 a h, to_z-of_z w32 b k) refl

each_most : (n : ℕ) (xs : List ℤ) (y : ℤ) → Each1 (SFits w32) xs → SFits w32 y → length xs ≡ n
    → zip2 lane_le (map (of_z w32) xs) (replicate n (of_z w32 y)) ≡ map full (map (λ x. int_le x y) xs)
each_most zero [] y h k e = refl
each_most (suc n) [] y h k e = refl
each_most zero (x ∷ xs) y h k e = absurd (omega arith)
each_most (suc n) (x ∷ xs) y h k e = rw (one_le x y h.0 k, each_most n xs y h.1 k (omega arith)) refl

each_least : (n : ℕ) (xs : List ℤ) (y : ℤ) → Each1 (SFits w32) xs → SFits w32 y → length xs ≡ n
    → zip2 lane_le (replicate n (of_z w32 y)) (map (of_z w32) xs) ≡ map full (map (λ x. int_le y x) xs)
each_least zero [] y h k e = refl
each_least (suc n) [] y h k e = refl
each_least zero (x ∷ xs) y h k e = absurd (omega arith)
each_least (suc n) (x ∷ xs) y h k e = rw (one_le y x k h.0, each_least n xs y h.1 k (omega arith)) refl

pub eight_long : {X : Type 0} (xs : List X) (at : ℕ) → at + 8 ≤ length xs → length (take 8 (drop at xs)) ≡ 8
eight_long xs at long = omega (arith, length-take 8 (drop at xs), length-drop at xs)

to_lanes : (bs : List Bool) → map (to_z w32) (map full bs) ≡ map lane bs
to_lanes [] = refl
to_lanes (true ∷ bs) = rw (to_lanes bs) refl
to_lanes (false ∷ bs) = rw (to_lanes bs) refl

pub from_lanes : (bs : List Bool) → map (of_z w32) (map lane bs) ≡ map full bs
from_lanes [] = refl
from_lanes (true ∷ bs) = rw (from_lanes bs) refl
from_lanes (false ∷ bs) = rw (from_lanes bs) refl

-- numbers of 32 bits are those of their lanes
pub kept_lanes : (xs : List ℤ) → Each1 (SFits w32) xs → map (to_z w32) (map (of_z w32) xs) ≡ xs
kept_lanes [] h = refl
kept_lanes (x ∷ xs) h = ap₂ (λ y ys. y ∷ ys) (to_z-of_z w32 x h.0) (kept_lanes xs h.1)

pub most_is : (xs : List ℤ) (y : ℤ) → length xs ≡ 8 → Each1 (SFits w32) xs → SFits w32 y
    → map (to_z w32) (zip2 lane_le (map (of_z w32) xs) (replicate 8 (of_z w32 y))) ≡ map lane (map (λ x. int_le x y) xs)
most_is xs y long fits fy = ap (map (to_z w32)) (each_most 8 xs y fits fy long) ∙ to_lanes (map (λ x. int_le x y) xs)

pub least_is : (xs : List ℤ) (y : ℤ) → length xs ≡ 8 → Each1 (SFits w32) xs → SFits w32 y
    → map (to_z w32) (zip2 lane_le (replicate 8 (of_z w32 y)) (map (of_z w32) xs)) ≡ map lane (map (λ x. int_le y x) xs)
least_is xs y long fits fy = ap (map (to_z w32)) (each_least 8 xs y fits fy long) ∙ to_lanes (map (λ x. int_le y x) xs)

pub at_most_is : (xs : List ℤ) (at : ℕ) (y : ℤ) → at + 8 ≤ length xs → Each1 (SFits w32) xs → SFits w32 y
    → map (to_z w32) (zip2 lane_le (map (of_z w32) (take 8 (drop at xs))) (replicate 8 (of_z w32 y))) ≡ map lane (map (λ x. int_le x y) (take 8 (drop at xs)))
at_most_is xs at y long fits fy = most_is (take 8 (drop at xs)) y (eight_long xs at long) (Each1-chunk (SFits w32) at 8 xs fits) fy

pub at_least_is : (xs : List ℤ) (at : ℕ) (y : ℤ) → at + 8 ≤ length xs → Each1 (SFits w32) xs → SFits w32 y
    → map (to_z w32) (zip2 lane_le (replicate 8 (of_z w32 y)) (map (of_z w32) (take 8 (drop at xs)))) ≡ map lane (map (λ x. int_le y x) (take 8 (drop at xs)))
at_least_is xs at y long fits fy = least_is (take 8 (drop at xs)) y (eight_long xs at long) (Each1-chunk (SFits w32) at 8 xs fits) fy

-- both of two truth values, place by place
abbrev pub both : List Bool → List Bool → List Bool
both = zip2 (λ a b. a && b)

one_and : (b c : Bool) → lane_and (full b) (full c) ≡ full (b && c)
one_and true true = refl
one_and true false = refl
one_and false true = refl
one_and false false = refl

pub and_lanes : (bs cs : List Bool) → zip2 lane_and (map full bs) (map full cs) ≡ map full (both bs cs)
and_lanes [] cs = refl
and_lanes (b ∷ bs) [] = refl
and_lanes (b ∷ bs) (c ∷ cs) = rw (one_and b c, and_lanes bs cs) refl

-- the lanes of two comparisons, of which both hold
pub both_lanes : (bs cs : List Bool) → map (to_z w32) (zip2 lane_and (map (of_z w32) (map lane bs)) (map (of_z w32) (map lane cs))) ≡ map lane (both bs cs)
both_lanes bs cs = rw (from_lanes bs, from_lanes cs, and_lanes bs cs) (to_lanes (both bs cs))

one_top : (b : Bool) → top 31 (full b) ≡ b
one_top true = refl
one_top false = refl

pub tops : (bs : List Bool) → map (top 31) (map full bs) ≡ bs
tops [] = refl
tops (b ∷ bs) = rw (one_top b, tops bs) refl

pub crossed : (s : Span) (los his : List ℤ) → both (map (λ x. int_le s.lo x) his) (map (λ x. int_le x s.hi) los) ≡ map (crosses s) (spans_of los his)
crossed s [] [] = refl
crossed s [] (hi ∷ his) = refl
crossed s (lo ∷ los) [] = refl
crossed s (lo ∷ los) (hi ∷ his) = ap (λ l. (int_le s.lo hi && int_le lo s.hi) ∷ l) (crossed s los his)

pub crossing_is : (s : Span) (los his : List ℤ) (at : ℕ)
    → both (map (λ x. int_le s.lo x) (take 8 (drop at his))) (map (λ x. int_le x s.hi) (take 8 (drop at los))) ≡ map (crosses s)
    (take 8 (drop at (spans_of los his)))
crossing_is s los his at =
    crossed s (take 8 (drop at los)) (take 8 (drop at his))
    ∙ ap (map (crosses s)) (beside_take span 8 (drop at los) (drop at his) ∙ ap (take 8) (beside_drop span at los his))
