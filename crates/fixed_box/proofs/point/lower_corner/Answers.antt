-- On each axis the lesser coordinate is at most both, and no greater one is.
use Rattle.std.proofs.Common.{◌≡◌, true, subst, sym, rules}
use Rattle.fixed_box.specs.declared.point.Point.{Point}
use Rattle.fixed_box.specs.Point.{is_at_most}
use Rattle.fixed_box.proofs.Corners.{min_read, same_point, lower_left, lower_right, lower_greatest}
use Rattle.fixed_box.proofs.point.lower_corner.Goals as goal

pub returns-clause-value : goal.returns-clause-value
returns-clause-value c =
    let p = c.args.p.now in
    let q = c.args.q.now in
    same_point _ _ _ _ _ _
    (min_read c.min.result p.x q.x (search rules) (search rules) (search rules) c.min.ensures.value)
    (min_read c.min-2.result p.y q.y (search rules) (search rules) (search rules) c.min-2.ensures.value)
    (min_read c.min-3.result p.z q.z (search rules) (search rules) (search rules) c.min-3.ensures.value)

pub returns-clause-left : goal.returns-clause-left
returns-clause-left c = subst (λ (s : Point). is_at_most s c.args.p.now ≡ true) (sym (returns-clause-value c)) (lower_left c.args.p.now c.args.q.now)

pub returns-clause-right : goal.returns-clause-right
returns-clause-right c = subst (λ (s : Point). is_at_most s c.args.q.now ≡ true) (sym (returns-clause-value c)) (lower_right c.args.p.now c.args.q.now)

pub returns-clause-greatest : goal.returns-clause-greatest
returns-clause-greatest c r a b = subst (λ (s : Point). is_at_most r s ≡ true) (sym (returns-clause-value c)) (lower_greatest c.args.p.now c.args.q.now r a b)
