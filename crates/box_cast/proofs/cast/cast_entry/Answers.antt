-- The ray's entry is the cast's where it comes at a fraction up to 1.
use Rattle.std.proofs.Common.{◌≡◌, sym, ap, subst, ◌∙◌, true, false, ◌≤ℤ◌, ◌<ℤ◌, Option, Some, is_some, SomeIff, IsTrue, arith}
use Rattle.std.proofs.lemmas.Int.{ints}
use Rattle.fixed_box.specs.Bounds.{Bounds}
use Rattle.fixed_box.specs.declared.point.Point.{Point}
use Rattle.ray_slabs.specs.Crossing.{Fraction, in_ray}
use Rattle.ray_slabs.specs.First.{first}
use Rattle.fixed_box.proofs.Numbers.{test_of_le}
use Rattle.ray_slabs.specs.Vector.{Vector, widened}
use Rattle.ray_slabs.specs.WideBounds.{WideBounds}
use Rattle.box_cast.specs.Cast.{in_cast, first_contact, IsSameValue}
use Rattle.box_cast.specs.Widening.{origin, widened_by, reached}
use Rattle.box_cast.proofs.Opened.{misses, comes_late, comes, held}
use Rattle.box_cast.proofs.cast.cast_entry.Goals as goal

-- what the ray's answer says of the cast's ray
told : (r : Option Fraction) (f d : Vector) (w : WideBounds) (c b : Bounds) (v : Point) → f ≡ origin → d ≡ widened v → w ≡ widened_by b c
    → SomeIff r (IsTrue (in_ray f d w)) (first f d w)
    → SomeIff r (IsTrue (in_ray origin (widened v) (widened_by b c))) (first origin (widened v) (widened_by b c))
told r f d w c b v p q s h =
    subst (λ (t : Vector × (Vector × WideBounds)). SomeIff r (IsTrue (in_ray t.0 t.1.0 t.1.1)) (first t.0 t.1.0 t.1.1)) (λ i. (p i, (q i, s i))) h

missed : (c : goal.After-from_residual) → in_cast c.args.cast.now.body c.args.cast.now.by c.args.body.now ≡ false
missed c =
    misses c.ray_entry.result (in_ray origin (widened c.args.cast.now.by) (widened_by c.args.body.now c.args.cast.now.body))
    (in_cast c.args.cast.now.body c.args.cast.now.by c.args.body.now)
    (first origin (widened c.args.cast.now.by) (widened_by c.args.body.now c.args.cast.now.body))
    (told c.ray_entry.result c.origin-from.result c.of-dir.result c.widened_by.result c.args.cast.now.body c.args.body.now c.args.cast.now.by
    c.origin-from.ensures c.of-dir.ensures c.widened_by.ensures c.ray_entry.ensures)
    (c.slide_law.ensures.met c.args.cast.now.body c.args.cast.now.by c.args.body.now) c.in_err-entry.was

pub returns-in_err-entry-clause-met : goal.returns-in_err-entry-clause-met
returns-in_err-entry-clause-met c = ap is_some c.from_residual.ensures ∙ sym (missed c)

pub returns-in_err-entry-clause-first : goal.returns-in_err-entry-clause-first
returns-in_err-entry-clause-first c =
    subst (λ r. IsSameValue r (first_contact c.args.cast.now.body c.args.cast.now.by c.args.body.now)) (sym c.from_residual.ensures)
    (c.slide_law.ensures.none c.args.cast.now.body c.args.cast.now.by c.args.body.now (missed c))

in_time : (c : goal.Then-num-den) → reached c.in_ok-entry.entry ≡ true
in_time c =
    let le : c.num.result ≤ℤ c.den.result = omega (arith, ints, c.if-num-den.true) in
    test_of_le c.in_ok-entry.entry.num c.in_ok-entry.entry.den (omega (arith, ints))

met : (c : goal.Then-num-den) → in_cast c.args.cast.now.body c.args.cast.now.by c.args.body.now ≡ true
met c =
    comes c.ray_entry.result (in_ray origin (widened c.args.cast.now.by) (widened_by c.args.body.now c.args.cast.now.body))
    (in_cast c.args.cast.now.body c.args.cast.now.by c.args.body.now)
    (first origin (widened c.args.cast.now.by) (widened_by c.args.body.now c.args.cast.now.body)) c.in_ok-entry.entry
    (told c.ray_entry.result c.origin-from.result c.of-dir.result c.widened_by.result c.args.cast.now.body c.args.body.now c.args.cast.now.by
    c.origin-from.ensures c.of-dir.ensures c.widened_by.ensures c.ray_entry.ensures)
    (c.slide_law.ensures.met c.args.cast.now.body c.args.cast.now.by c.args.body.now) c.in_ok-entry.was (in_time c)

pub returns-then-num-den-clause-met : goal.returns-then-num-den-clause-met
returns-then-num-den-clause-met c = sym (met c)

pub returns-then-num-den-clause-first : goal.returns-then-num-den-clause-first
returns-then-num-den-clause-first c =
    let both : (in_ray origin (widened c.args.cast.now.by) (widened_by c.args.body.now c.args.cast.now.body) ≡ true)
    × (c.in_ok-entry.entry ≡ first origin (widened c.args.cast.now.by) (widened_by c.args.body.now c.args.cast.now.body)) =
    held c.ray_entry.result (in_ray origin (widened c.args.cast.now.by) (widened_by c.args.body.now c.args.cast.now.body)) c.in_ok-entry.entry
    (first origin (widened c.args.cast.now.by) (widened_by c.args.body.now c.args.cast.now.body))
    (told c.ray_entry.result c.origin-from.result c.of-dir.result c.widened_by.result c.args.cast.now.body c.args.body.now c.args.cast.now.by
    c.origin-from.ensures c.of-dir.ensures c.widened_by.ensures c.ray_entry.ensures) c.in_ok-entry.was in
    subst (λ t. IsSameValue (Some t) (first_contact c.args.cast.now.body c.args.cast.now.by c.args.body.now)) (sym both.1)
    (c.slide_law.ensures.first c.args.cast.now.body c.args.cast.now.by c.args.body.now (met c))

late : (c : goal.Else-num-den) → in_cast c.args.cast.now.body c.args.cast.now.by c.args.body.now ≡ false
late c =
    let gt : c.den.result <ℤ c.num.result = omega (arith, ints, c.if-num-den.false) in
    let not : reached c.in_ok-entry.entry ≡ false = sym (omega (arith, ints)) in
    comes_late c.ray_entry.result (in_ray origin (widened c.args.cast.now.by) (widened_by c.args.body.now c.args.cast.now.body))
    (in_cast c.args.cast.now.body c.args.cast.now.by c.args.body.now)
    (first origin (widened c.args.cast.now.by) (widened_by c.args.body.now c.args.cast.now.body)) c.in_ok-entry.entry
    (told c.ray_entry.result c.origin-from.result c.of-dir.result c.widened_by.result c.args.cast.now.body c.args.body.now c.args.cast.now.by
    c.origin-from.ensures c.of-dir.ensures c.widened_by.ensures c.ray_entry.ensures)
    (c.slide_law.ensures.met c.args.cast.now.body c.args.cast.now.by c.args.body.now) c.in_ok-entry.was not

pub returns-else-num-den-clause-met : goal.returns-else-num-den-clause-met
returns-else-num-den-clause-met c = sym (late c)

pub returns-else-num-den-clause-first : goal.returns-else-num-den-clause-first
returns-else-num-den-clause-first c = c.slide_law.ensures.none c.args.cast.now.body c.args.cast.now.by c.args.body.now (late c)
