-- The denominators are above 0, so that each weighs what it is.
use Rattle.std.proofs.Common.{◌≡◌, ◌∙◌, ap, pos, ◌*ℤ◌, ◌<ℤ◌, to_z, of_z, w64, int_cmp, arith}
use Rattle.std.specs.Int.{w128}
use Rattle.std.proofs.lemmas.Int.{ints}
use Rattle.ray_slabs.specs.Crossing.{Fraction}
use Rattle.ray_slabs.specs.FirstLaws.{compared}
use Rattle.ray_slabs.proofs.entry.EntryOrd.cmp.Goals as goal

pub returns : goal.returns
returns c =
    let num : to_z w64 (of_z w64 c.self.inside.num) ≡ c.args.self.now.num = omega (arith, ints, ap (λ (t : Fraction). t.num) c.self.view_is) in
    let den : to_z w64 (of_z w64 c.self.inside.den) ≡ c.args.self.now.den = omega (arith, ints, ap (λ (t : Fraction). t.den) c.self.view_is) in
    let num' : to_z w64 (of_z w64 c.other.inside.num) ≡ c.args.other.now.num = omega (arith, ints, ap (λ (t : Fraction). t.num) c.other.view_is) in
    let den' : to_z w64 (of_z w64 c.other.inside.den) ≡ c.args.other.now.den = omega (arith, ints, ap (λ (t : Fraction). t.den) c.other.view_is) in
    let above : pos 0 <ℤ c.args.self.now.den = omega (arith, ints, ap (λ (t : Fraction). t.den) c.self.view_is) in
    let above' : pos 0 <ℤ c.args.other.now.den = omega (arith, ints, ap (λ (t : Fraction). t.den) c.other.view_is) in
    let left : to_z w128 (of_z w128 c.product.result) ≡ c.args.self.now.num *ℤ c.args.other.now.den =
    omega (arith, ints) ∙ c.product.ensures ∙ (λ i. num i *ℤ den' i) in
    let right : to_z w128 (of_z w128 c.product-2.result) ≡ c.args.other.now.num *ℤ c.args.self.now.den =
    omega (arith, ints) ∙ c.product-2.ensures ∙ (λ i. num' i *ℤ den i) in
    c.cmp.ensures ∙ (λ i. int_cmp (left i) (right i)) ∙ compared c.args.self.now c.args.other.now above above'
