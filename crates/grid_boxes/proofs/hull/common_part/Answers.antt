-- What meets both reaches both corners.
use Rattle.std.proofs.Common.{◌≡◌, true, sym, subst}
use Rattle.std.proofs.lemmas.Bool.{and_parts}
use Rattle.fixed_box.specs.declared.point.Point.{Point}
use Rattle.fixed_box.specs.Point.{is_at_most}
use Rattle.grid_boxes.proofs.HullLemmas.{met_made}
use Rattle.grid_boxes.proofs.hull.common_part.Goals as goal

pub returns-in-Some : goal.returns-in-Some
returns-in-Some c x m n =
    let a = c.args.a.now in
    let b = c.args.b.now in
    let first = and_parts (is_at_most a.lo x.hi) (is_at_most x.lo a.hi) m in
    let second = and_parts (is_at_most b.lo x.hi) (is_at_most x.lo b.hi) n in
    met_made _ _ x _ c.new.result c.new.ensures c.in-Some.is
    (c.greater-lo.ensures x.hi (subst (λ (s : Point). is_at_most s x.hi ≡ true) (sym c.lo.ensures.lo) first.0)
    (subst (λ (s : Point). is_at_most s x.hi ≡ true) (sym c.lo-2.ensures.lo) second.0))
    (c.lesser-hi.ensures x.lo (subst (λ (s : Point). is_at_most x.lo s ≡ true) (sym c.hi.ensures.hi) first.1)
    (subst (λ (s : Point). is_at_most x.lo s ≡ true) (sym c.hi-2.ensures.hi) second.1))
