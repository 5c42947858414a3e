-- Serves proofs alone: the intervals of boxes on each axis, and the boxes that they make.
use Rattle.std.specs.Prelude.{◌≡◌, ℕ, ℤ, negsuc, pos, Bool, ◌&&◌, IsTrue, int_le, List, length, ◌≤◌, All, FitsSigned, if◌then◌else◌}
use Rattle.std.specs.Int.{w32}
use Rattle.std.specs.Simd.Lanes.{zip2, Each1}
use Rattle.fixed_box.specs.Bounds.{Bounds}
use Rattle.lane_boxes.specs.declared.span.Span.{Span}

-- the intervals of an axis in their order, and for how many more there is room
pub record Spans : Type 0 where
  pub spans : List Span
  pub spare : ℕ

-- two columns side by side
abbrev pub spans_of : List ℤ → List ℤ → List Span
spans_of los his = zip2 (λ lo hi. record { lo = lo; hi = hi }) los his

-- the box with these intervals
abbrev pub box_of : Span → Span → Span → Bounds
box_of x y z = record { lo = record { x = x.lo; y = y.lo; z = z.lo }; hi = record { x = x.hi; y = y.hi; z = z.hi } }

-- the same, of an interval and a pair of them
abbrev pub box_with : Span → Span × Span → Bounds
box_with x t = box_of x t.0 t.1

-- two axes side by side
abbrev pub pairs_of : List Span → List Span → List (Span × Span)
pairs_of ys zs = zip2 (λ y z. (y, z)) ys zs

-- three axes side by side
abbrev pub boxes_of : List Span → List Span → List Span → List Bounds
boxes_of xs ys zs = zip2 box_with xs (pairs_of ys zs)

-- an interval of a box on each axis
abbrev pub x_of : Bounds → Span
x_of b = record { lo = b.lo.x; hi = b.hi.x }

abbrev pub y_of : Bounds → Span
y_of b = record { lo = b.lo.y; hi = b.hi.y }

abbrev pub z_of : Bounds → Span
z_of b = record { lo = b.lo.z; hi = b.hi.z }

-- the numbers of an interval have 32 bits, and rise
pub record IsSpan (s : Span) : Type 0 where
  pub lo : FitsSigned w32 s.lo
  pub hi : FitsSigned w32 s.hi
  pub ordered : IsTrue (int_le s.lo s.hi)

-- two columns are those of intervals
pub record AreSpans (los his : List ℤ) : Type 0 where
  pub same : length his ≡ length los
  pub each : All IsSpan (spans_of los his)

-- two intervals have a common number
abbrev pub crosses : Span → Span → Bool
crosses a b = int_le a.lo b.hi && int_le b.lo a.hi

-- the lane of a mask
abbrev pub lane : Bool → ℤ
lane b = if b then negsuc 0 else pos 0

-- the three axes have as many intervals, and no less room
pub record AreAxes (x y z : Spans) (spare : ℕ) : Type 0 where
  pub same_y : length y.spans ≡ length x.spans
  pub same_z : length z.spans ≡ length x.spans
  pub x_room : spare ≤ x.spare
  pub y_room : spare ≤ y.spare
  pub z_room : spare ≤ z.spare

-- eight lower ends and eight upper ones, in lanes
pub record AreLanes (los his : List ℤ) : Type 0 where
  pub lows : length los ≡ 8
  pub highs : length his ≡ 8
  pub lo : Each1 (FitsSigned w32) los
  pub hi : Each1 (FitsSigned w32) his
