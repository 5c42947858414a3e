-- A segment by its start and its way, and what a line meets by what is kept of it.
use Rattle.std.proofs.Common.{◌≡◌, refl, sym, ap, ◌∙◌, Bool, true, false, ◌&&◌, ℤ, pos, negsuc, neg_ℤ, ◌^◌, ◌+ℤ◌, ◌-ℤ◌, ◌≤ℤ◌, int_le, int_lt, IsTrue, arith}
use Rattle.std.proofs.lemmas.Bool.{and_parts}
use Rattle.std.proofs.lemmas.Int.{ints}
use Rattle.fixed_box.specs.declared.point.Point.{Point}
use Rattle.fixed_box.specs.Bounds.{Bounds, meets}
use Rattle.fixed_box.specs.Point.{is_at_most}
use Rattle.fixed_box.specs.Space.{space}
use Rattle.ray_slabs.specs.Crossing.{Slab, in_ray, in_seg}
use Rattle.ray_slabs.specs.Mirrored.{mirrored, on_x, on_y, on_z, all_overlap, meet_ahead, meet_on_way}
use Rattle.ray_slabs.specs.Vector.{Vector, widened, displacement}
use Rattle.ray_slabs.specs.WideBounds.{WideBounds, widened_box}
use Rattle.ray_slabs.specs.Vector as vector
use Rattle.fixed_box.proofs.Numbers.{le_of_test}
use Rattle.ray_slabs.specs.declared.seg.Seg.{Seg}
use Rattle.broad_index.specs.declared.query.Query.{Query}
use Rattle.broad_index.specs.declared.query.Query.TheVariants.{Between}
use Rattle.broad_index.specs.Found.{query_meets}
use Rattle.prepared_query.specs.NarrowLine.{fits_i32, is_narrow_vector}
use Rattle.prepared_query.specs.Prepared.{arrival, line_of, end_on, line_hull, slopes_of, pass, IsPrepared}
use Rattle.prepared_query.specs.declared.slopes.Slopes.{Slopes}
use Rattle.prepared_query.proofs.Around.{is_by, meets_slab, met}
use Rattle.prepared_query.proofs.Passes.{passes_is}

-- a way there and back
gone : (z y : ℤ) → (z +ℤ y) -ℤ z ≡ y
gone z y = omega (arith, ints)

arrived : (z y : ℤ) → z +ℤ (y -ℤ z) ≡ y
arrived z y = omega (arith, ints)

all_gone : (f d : Vector) → displacement f (arrival f d) ≡ d
all_gone f d = λ i. record { x = gone f.x d.x i; y = gone f.y d.y i; z = gone f.z d.z i }

all_arrived : (a b : Vector) → arrival a (displacement a b) ≡ b
all_arrived a b = λ i. record { x = arrived a.x b.x i; y = arrived a.y b.y i; z = arrived a.z b.z i }

pub segment : (seg : Seg) {query : Query} {from dir : Point} → query ≡ Between seg → widened from ≡ seg.a → widened dir ≡ displacement seg.a seg.b
    → line_of true (widened from) (widened dir) ≡ query
segment seg e ea ed = (λ i. line_of true (ea i) (ed i)) ∙ (λ i. Between (record { a = seg.a; b = all_arrived seg.a seg.b i })) ∙ sym e

-- the laws of rays and segments, which are decided by pairs of axes
pub record LineLaws : Type 0 where
  pub rays : (f d : Vector) (b : WideBounds) → IsTrue (vector.is_at_most b.lo b.hi) → meet_ahead (on_x f d b) (on_y f d b) (on_z f d b) ≡ in_ray f d b
  pub segs : (a c : Vector) (b : WideBounds) → IsTrue (vector.is_at_most b.lo b.hi)
      → meet_on_way (on_x a (displacement a c) b) (on_y a (displacement a c) b) (on_z a (displacement a c) b) ≡ in_seg a c b

-- the test by pairs of axes
line_answer : LineLaws → (ends : Bool) (f d : Vector) (body : Bounds) → IsTrue (is_at_most body.lo body.hi)
    → (meets_slab ends (on_x f d (widened_box body)) && meets_slab ends (on_y f d (widened_box body)) && meets_slab ends (on_z f d (widened_box body))
    && all_overlap (on_x f d (widened_box body)) (on_y f d (widened_box body)) (on_z f d (widened_box body))) ≡ query_meets (line_of ends f d) body
line_answer laws true f d body h =
    let b : WideBounds = widened_box body in
    let w : d ≡ displacement f (arrival f d) = sym (all_gone f d) in
    (λ i. meet_on_way (on_x f (w i) b) (on_y f (w i) b) (on_z f (w i) b)) ∙ laws.segs f (arrival f d) b h
line_answer laws false f d body h = laws.rays f d (widened_box body) h

-- six tests by corners, and by axes
pub by_axes : (a b c d e f : Bool) → (((a && b) && c) && ((d && e) && f)) ≡ (((a && d) && (b && e)) && (c && f))
by_axes true true true d e f = refl
by_axes false b c d e f = refl
by_axes true false c true e f = refl
by_axes true false c false e f = refl
by_axes true true false true true f = refl
by_axes true true false true false f = refl
by_axes true true false false e f = refl

-- Numbers of 32 bits.
record Fits (z : ℤ) : Type 0 where
  low : negsuc 2147483647 ≤ℤ z
  high : z ≤ℤ pos 2147483647

fits : (z : ℤ) → fits_i32 z ≡ true → Fits z
fits z h =
    let parts = and_parts (int_le (neg_ℤ (pos (2 ^ 31))) z) (int_lt z (pos (2 ^ 31))) h in
    record { low = omega (arith, ints, parts.0); high = omega (arith, ints, parts.1) }

axis : (ends : Bool) (from dir lo hi : ℤ) → fits_i32 from ≡ true → int_le (negsuc 2147483647) hi ≡ true → int_le lo (pos 2147483647) ≡ true
    → is_by from (end_on ends from dir) lo hi ≡ meets_slab ends (mirrored (record { from = from; dir = dir; lo = lo; hi = hi }))
axis ends from dir lo hi start low high =
    let from_fits : Fits from = fits from start in
    met ends from dir lo hi from_fits.low from_fits.high (le_of_test lo (pos 2147483647) high) (le_of_test (negsuc 2147483647) hi low)

-- by the corners of the least box around a line
around : (ends : Bool) (from dir : Point) (body : Bounds) → IsTrue (is_narrow_vector (widened from)) → IsTrue (meets space body)
    → meets (line_hull ends from dir) body
    ≡ (meets_slab ends (on_x (widened from) (widened dir) (widened_box body)) && meets_slab ends (on_y (widened from) (widened dir) (widened_box body))
    && meets_slab ends (on_z (widened from) (widened dir) (widened_box body)))
around ends from dir body start in_space =
    let starts = and_parts (fits_i32 from.x && fits_i32 from.y) (fits_i32 from.z) start in
    let start_xy = and_parts (fits_i32 from.x) (fits_i32 from.y) starts.0 in
    let parts = and_parts (is_at_most space.lo body.hi) (is_at_most body.lo space.hi) in_space in
    let low = and_parts (int_le space.lo.x body.hi.x && int_le space.lo.y body.hi.y) (int_le space.lo.z body.hi.z) parts.0 in
    let low_xy = and_parts (int_le space.lo.x body.hi.x) (int_le space.lo.y body.hi.y) low.0 in
    let high = and_parts (int_le body.lo.x space.hi.x && int_le body.lo.y space.hi.y) (int_le body.lo.z space.hi.z) parts.1 in
    let high_xy = and_parts (int_le body.lo.x space.hi.x) (int_le body.lo.y space.hi.y) high.0 in
    let least : Point = (line_hull ends from dir).lo in
    let most : Point = (line_hull ends from dir).hi in
    let x : is_by from.x (end_on ends from.x dir.x) body.lo.x body.hi.x ≡ meets_slab ends (on_x (widened from) (widened dir) (widened_box body)) =
    axis ends from.x dir.x body.lo.x body.hi.x start_xy.0 low_xy.0 high_xy.0 in
    let y : is_by from.y (end_on ends from.y dir.y) body.lo.y body.hi.y ≡ meets_slab ends (on_y (widened from) (widened dir) (widened_box body)) =
    axis ends from.y dir.y body.lo.y body.hi.y start_xy.1 low_xy.1 high_xy.1 in
    let z : is_by from.z (end_on ends from.z dir.z) body.lo.z body.hi.z ≡ meets_slab ends (on_z (widened from) (widened dir) (widened_box body)) =
    axis ends from.z dir.z body.lo.z body.hi.z starts.1 low.1 high.1 in
    by_axes (int_le least.x body.hi.x) (int_le least.y body.hi.y) (int_le least.z body.hi.z)
    (int_le body.lo.x most.x) (int_le body.lo.y most.y) (int_le body.lo.z most.z)
    ∙ (λ i. x i && y i && z i)

-- each view of the line is a pair of axes
seen : (from dir : Point) (body : Bounds) → pass (slopes_of from dir) body
    ≡ all_overlap (on_x (widened from) (widened dir) (widened_box body)) (on_y (widened from) (widened dir) (widened_box body))
    (on_z (widened from) (widened dir) (widened_box body))
seen from dir body =
    let x : Slab = record { from = from.x; dir = dir.x; lo = body.lo.x; hi = body.hi.x } in
    let y : Slab = record { from = from.y; dir = dir.y; lo = body.lo.y; hi = body.hi.y } in
    let z : Slab = record { from = from.z; dir = dir.z; lo = body.lo.z; hi = body.hi.z } in
    λ i. passes_is dir.x dir.y x y i && passes_is dir.x dir.z x z i && passes_is dir.y dir.z y z i

-- So a box that meets the least one around the line is met by the line where it passes in each view.
whole : LineLaws → {query : Query} {hull : Bounds} {slopes : Slopes} (body : Bounds) → IsPrepared query hull slopes → IsTrue (is_at_most body.lo body.hi)
    → IsTrue (meets space body) → (meets hull body && pass slopes body) ≡ query_meets query body
whole laws {slopes = slopes} body p ordered in_space =
    let met_around = ap (λ b. meets b body) p.hull ∙ around p.ends slopes.from p.dir body p.start in_space in
    let passed = ap (λ s. pass s body) p.slopes ∙ seen slopes.from p.dir body in
    (λ i. met_around i && passed i)
    ∙ line_answer laws p.ends (widened slopes.from) (widened p.dir) body ordered
    ∙ ap (λ query. query_meets query body) p.line

pub passed_by : LineLaws → {query : Query} {hull : Bounds} {slopes : Slopes} (body : Bounds) → IsPrepared query hull slopes
    → IsTrue (is_at_most body.lo body.hi) → IsTrue (meets space body) → meets hull body ≡ false → false ≡ query_meets query body
passed_by laws {slopes = slopes} body p ordered in_space out = (λ i. sym out i && pass slopes body) ∙ whole laws body p ordered in_space

pub passed : LineLaws → {query : Query} {hull : Bounds} {slopes : Slopes} (body : Bounds) → IsPrepared query hull slopes → IsTrue (is_at_most body.lo body.hi)
    → IsTrue (meets space body) → meets hull body ≡ true → pass slopes body ≡ query_meets query body
passed laws {slopes = slopes} body p ordered in_space near = (λ i. sym near i && pass slopes body) ∙ whole laws body p ordered in_space
