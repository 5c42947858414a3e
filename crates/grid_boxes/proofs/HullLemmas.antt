-- A box that two corners in order reach.
use Rattle.std.proofs.Common.{◌≡◌, true, Option, Some, None, IsTrue, SomeIff, ap, ◌∙◌, subst}
use Rattle.std.proofs.lemmas.Bool.{and_from}
use Rattle.fixed_box.specs.Bounds.{Bounds, meets}
use Rattle.fixed_box.specs.declared.point.Point.{Point}
use Rattle.fixed_box.specs.Point.{is_at_most}
use Rattle.grid_boxes.specs.Grid.{meets_part}

-- it meets the box that they make
pub met_between : (lo hi : Point) (b : Bounds) (o : Option Bounds) → SomeIff o (IsTrue (is_at_most lo hi)) (record { lo = lo; hi = hi })
    → is_at_most lo hi ≡ true → is_at_most lo b.hi ≡ true → is_at_most b.lo hi ≡ true → meets_part o b ≡ true
met_between lo hi b None made o l h = absurd (made o)
met_between lo hi b (Some x) made o l h =
    ap (λ (a : Bounds). meets a b) made.1 ∙ and_from (is_at_most lo b.hi) (is_at_most b.lo hi) l h

-- and so does one that reaches a box made of two corners, where it is made
pub met_made : (lo hi : Point) (b x : Bounds) (o : Option Bounds) → SomeIff o (IsTrue (is_at_most lo hi)) (record { lo = lo; hi = hi }) → o ≡ Some x
    → is_at_most lo b.hi ≡ true → is_at_most b.lo hi ≡ true → meets x b ≡ true
met_made lo hi b x o made e l h =
    let same = subst (λ (o : Option Bounds). SomeIff o (IsTrue (is_at_most lo hi)) (record { lo = lo; hi = hi })) e made in
    ap (λ (a : Bounds). meets a b) same.1 ∙ and_from (is_at_most lo b.hi) (is_at_most b.lo hi) l h
