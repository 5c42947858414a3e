-- On each axis the greater coordinate is at least both, and no lesser one is.
use Rattle.std.proofs.Common.{◌≡◌, true, subst, sym, rules}
use Rattle.fixed_box.specs.declared.point.Point.{Point}
use Rattle.fixed_box.specs.Point.{is_at_most}
use Rattle.fixed_box.proofs.Corners.{max_read, same_point, upper_left, upper_right, upper_least}
use Rattle.fixed_box.proofs.point.upper_corner.Goals as goal

pub returns-clause-value : goal.returns-clause-value
returns-clause-value c =
    let p = c.args.p.now in
    let q = c.args.q.now in
    same_point _ _ _ _ _ _
    (max_read c.max.result p.x q.x (search rules) (search rules) (search rules) c.max.ensures.value)
    (max_read c.max-2.result p.y q.y (search rules) (search rules) (search rules) c.max-2.ensures.value)
    (max_read c.max-3.result p.z q.z (search rules) (search rules) (search rules) c.max-3.ensures.value)

pub returns-clause-left : goal.returns-clause-left
returns-clause-left c = subst (λ (s : Point). is_at_most c.args.p.now s ≡ true) (sym (returns-clause-value c)) (upper_left c.args.p.now c.args.q.now)

pub returns-clause-right : goal.returns-clause-right
returns-clause-right c = subst (λ (s : Point). is_at_most c.args.q.now s ≡ true) (sym (returns-clause-value c)) (upper_right c.args.p.now c.args.q.now)

pub returns-clause-least : goal.returns-clause-least
returns-clause-least c r a b = subst (λ (s : Point). is_at_most s r ≡ true) (sym (returns-clause-value c)) (upper_least c.args.p.now c.args.q.now r a b)
