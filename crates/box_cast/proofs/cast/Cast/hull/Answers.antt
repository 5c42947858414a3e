-- The moved corners are ordered, as the corners are.
use Rattle.std.proofs.Common.{◌≡◌, ap, ◌∙◌}
use Rattle.fixed_box.specs.Point.{is_at_most}
use Rattle.box_cast.specs.Hull.{moved_point}
use Rattle.box_cast.proofs.Opened.{some_of}
use Rattle.box_cast.proofs.Ordered.{moved_ordered}
use Rattle.box_cast.proofs.cast.Cast.hull.Goals as goal

pub unwrap-requires : goal.unwrap-requires
unwrap-requires c =
    let lo : c.moved_point-lo.result ≡ moved_point c.args.self.now.body.lo c.args.self.now.by =
    c.moved_point-lo.ensures ∙ ap (λ p. moved_point p c.args.self.now.by) c.lo.ensures.lo in
    let hi : c.moved_point-hi.result ≡ moved_point c.args.self.now.body.hi c.args.self.now.by =
    c.moved_point-hi.ensures ∙ ap (λ p. moved_point p c.args.self.now.by) c.hi.ensures.hi in
    some_of c.new.result (is_at_most c.moved_point-lo.result c.moved_point-hi.result) (record { lo = c.moved_point-lo.result; hi = c.moved_point-hi.result })
    c.new.ensures
    ((λ i. is_at_most (lo i) (hi i)) ∙ moved_ordered c.args.self.now.body c.args.self.now.by c.lo.ensures.ordered)
