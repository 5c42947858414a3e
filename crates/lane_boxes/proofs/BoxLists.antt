-- Three axes side by side are a list of boxes, and what an edit of all three does to it.
use Rattle.std.proofs.Common.{◌≡◌, ℕ, Bool, true, false, ◌&&◌, int_le, List, [], ◌∷◌, ◌++◌, length, map, take, drop, set, get_or, insert, remove}
use Rattle.std.proofs.Common.{swap_remove, refl, ap, ap₂, sym, ◌∙◌, arith}
use Rattle.std.specs.Simd.Lanes.{zip2}
use Rattle.std.proofs.lemmas.Simd.{length-zip2}
use Rattle.fixed_box.specs.Bounds.{Bounds, meets}
use Rattle.lane_boxes.specs.declared.span.Span.{Span}
use Rattle.lane_boxes.specs.Boxes.{Boxes}
use Rattle.lane_boxes.specs.Spans.{Spans, AreAxes, box_of, box_with, pairs_of, boxes_of, x_of, y_of, z_of, crosses}
use Rattle.lane_boxes.proofs.Beside.{beside_append, beside_at, beside_drop, beside_insert, beside_remove, beside_set, beside_swap_remove, beside_take}
use Rattle.lane_boxes.proofs.Crossing.{both}

abbrev pub pair : Span → Span → Span × Span
pair y z = (y, z)

module _ (x y z : Spans) (spare : ℕ) (l : AreAxes x y z spare) where
  tail_long : length x.spans ≡ length (pairs_of y.spans z.spans)
  tail_long = omega (arith, length-zip2 pair y.spans z.spans (omega (arith, l.same_y, l.same_z)), l.same_y)

  same_tail : length y.spans ≡ length z.spans
  same_tail = omega (arith, l.same_y, l.same_z)

  pub boxes_long : length (boxes_of x.spans y.spans z.spans) ≡ length x.spans
  boxes_long = length-zip2 box_with x.spans (pairs_of y.spans z.spans) tail_long

  pub boxes_at : (at : ℕ) (a b c : Span) → get_or (boxes_of x.spans y.spans z.spans) at (box_of a b c) ≡ box_of (get_or x.spans at a) (get_or y.spans at b)
      (get_or z.spans at c)
  boxes_at at a b c = beside_at box_with x.spans (pairs_of y.spans z.spans) at a (b, c) tail_long ∙ ap (box_with (get_or x.spans at a))
      (beside_at pair y.spans z.spans at b c same_tail)

  pub boxes_read : (at : ℕ) (a b c : Span) → a ≡ get_or x.spans at a → b ≡ get_or y.spans at b → c ≡ get_or z.spans at c → box_of a b c ≡ get_or
      (boxes_of x.spans y.spans z.spans) at (box_of a b c)
  boxes_read at a b c ex ey ez =
      ap (λ s. box_of s b c) ex
      ∙ ap (λ s. box_of (get_or x.spans at a) s c) ey
      ∙ ap (box_of (get_or x.spans at a) (get_or y.spans at b)) ez
      ∙ sym (boxes_at at a b c)

  pub boxes_pushed : (a b c : Span) → boxes_of (x.spans ++ a ∷ []) (y.spans ++ b ∷ []) (z.spans ++ c ∷ []) ≡ boxes_of x.spans y.spans z.spans ++ box_of a b
      c ∷ []
  boxes_pushed a b c =
      ap (zip2 box_with (x.spans ++ a ∷ [])) (beside_append pair y.spans (b ∷ []) z.spans (c ∷ []) same_tail)
      ∙ beside_append box_with x.spans (a ∷ []) (pairs_of y.spans z.spans) ((b, c) ∷ []) tail_long

  pub boxes_inserted : (at : ℕ) (a b c : Span) → boxes_of (insert x.spans at a) (insert y.spans at b) (insert z.spans at c) ≡ insert
      (boxes_of x.spans y.spans z.spans) at (box_of a b c)
  boxes_inserted at a b c =
      ap (zip2 box_with (insert x.spans at a)) (beside_insert pair y.spans z.spans at b c same_tail) ∙ beside_insert box_with x.spans
      (pairs_of y.spans z.spans) at a (b, c) tail_long

  pub boxes_removed : (at : ℕ) → boxes_of (remove x.spans at) (remove y.spans at) (remove z.spans at) ≡ remove (boxes_of x.spans y.spans z.spans) at
  boxes_removed at = ap (zip2 box_with (remove x.spans at)) (beside_remove pair y.spans z.spans at same_tail) ∙ beside_remove box_with x.spans
      (pairs_of y.spans z.spans) at tail_long

  pub boxes_swapped : (at : ℕ) (a b c : Span) → boxes_of (swap_remove x.spans at a) (swap_remove y.spans at b) (swap_remove z.spans at c) ≡ swap_remove
      (boxes_of x.spans y.spans z.spans) at (box_of a b c)
  boxes_swapped at a b c =
      ap (zip2 box_with (swap_remove x.spans at a)) (beside_swap_remove pair y.spans z.spans at b c same_tail)
      ∙ beside_swap_remove box_with x.spans (pairs_of y.spans z.spans) at a (b, c) tail_long

pub boxes_set : (xs ys zs : List Span) (at : ℕ) (x y z : Span) → boxes_of (set xs at x) (set ys at y) (set zs at z) ≡ set (boxes_of xs ys zs) at (box_of x y z)
boxes_set xs ys zs at x y z = ap (zip2 box_with (set xs at x)) (beside_set pair ys zs at y z) ∙ beside_set box_with xs (pairs_of ys zs) at x (y, z)

next_boxes : (xs ys zs : List Span) (at : ℕ) → boxes_of (take 8 (drop at xs)) (take 8 (drop at ys)) (take 8 (drop at zs)) ≡ take 8 (drop at (boxes_of xs ys zs))
next_boxes xs ys zs at =
    ap (zip2 box_with (take 8 (drop at xs))) (beside_take pair 8 (drop at ys) (drop at zs) ∙ ap (take 8) (beside_drop pair at ys zs))
    ∙ beside_take box_with 8 (drop at xs) (drop at (pairs_of ys zs))
    ∙ ap (take 8) (beside_drop box_with at xs (pairs_of ys zs))

by_axis : (a b c d e f : Bool) → ((((a && d) && (b && e)) && (c && f))) ≡ ((a && b && c) && (d && e && f))
by_axis true true true d e f = refl
by_axis true true false true true f = refl
by_axis true true false true false f = refl
by_axis true true false false e f = refl
by_axis true false c true e f = refl
by_axis true false c false e f = refl
by_axis false b c d e f = refl

-- boxes meet where their intervals cross on each axis
one_meets : (b : Bounds) (x y z : Span) → ((crosses (x_of b) x && crosses (y_of b) y) && crosses (z_of b) z) ≡ meets b (box_of x y z)
one_meets b x y z = by_axis (int_le b.lo.x x.hi) (int_le b.lo.y y.hi) (int_le b.lo.z z.hi) (int_le x.lo b.hi.x) (int_le y.lo b.hi.y) (int_le z.lo b.hi.z)

all_meet : (b : Bounds) (xs ys zs : List Span)
    → both (both (map (crosses (x_of b)) xs) (map (crosses (y_of b)) ys)) (map (crosses (z_of b)) zs) ≡ map (meets b) (boxes_of xs ys zs)
all_meet b [] ys zs = refl
all_meet b (x ∷ xs) [] zs = refl
all_meet b (x ∷ xs) (y ∷ ys) [] = refl
all_meet b (x ∷ xs) (y ∷ ys) (z ∷ zs) = ap₂ (λ p l. p ∷ l) (one_meets b x y z) (all_meet b xs ys zs)

pub next_meet : (b : Bounds) (xs ys zs : List Span) (at : ℕ)
    → both (both (map (crosses (x_of b)) (take 8 (drop at xs))) (map (crosses (y_of b)) (take 8 (drop at ys)))) (map (crosses (z_of b)) (take 8 (drop at zs)))
    ≡ map (meets b) (take 8 (drop at (boxes_of xs ys zs)))
next_meet b xs ys zs at = all_meet b (take 8 (drop at xs)) (take 8 (drop at ys)) (take 8 (drop at zs)) ∙ ap (map (meets b)) (next_boxes xs ys zs at)

-- each axis has an interval of each box
pub record Axes (p q r : Spans) (boxes : List Bounds) : Type 0 where
  pub x : length p.spans ≡ length boxes
  pub y : length q.spans ≡ length boxes
  pub z : length r.spans ≡ length boxes

pub axes_long : (x y z : Spans) (spare : ℕ) (b : Boxes) → AreAxes x y z spare
    → ◌≡◌ {A = Boxes} (record { boxes = boxes_of x.spans y.spans z.spans; spare = spare }) b → Axes x y z b.boxes
axes_long x y z spare b l e =
    let long = boxes_long x y z spare l in
    let seen = ap (λ (b : Boxes). length b.boxes) e in
    record { x = omega (arith, long, seen); y = omega (arith, long, seen, l.same_y); z = omega (arith, long, seen, l.same_z) }
