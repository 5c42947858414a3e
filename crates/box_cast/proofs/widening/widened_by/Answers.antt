-- The corners are ordered, as those of both boxes are.
use Rattle.std.proofs.Common.{◌≡◌, ◌∙◌}
use Rattle.ray_slabs.specs.Vector.{is_at_most}
use Rattle.box_cast.specs.Widening.{apart}
use Rattle.box_cast.proofs.Opened.{some_of}
use Rattle.box_cast.proofs.Ordered.{apart_ordered}
use Rattle.box_cast.proofs.widening.widened_by.Goals as goal

pub unwrap-requires : goal.unwrap-requires
unwrap-requires c =
    let lo : c.apart-lo.result ≡ apart c.args.body.now.lo c.args.cast.now.hi = c.apart-lo.ensures ∙ (λ i. apart (c.lo.ensures.lo i) (c.hi.ensures.hi i)) in
    let hi : c.apart-hi.result ≡ apart c.args.body.now.hi c.args.cast.now.lo = c.apart-hi.ensures ∙ (λ i. apart (c.hi-2.ensures.hi i) (c.lo-2.ensures.lo i)) in
    some_of c.new.result (is_at_most c.apart-lo.result c.apart-hi.result) (record { lo = c.apart-lo.result; hi = c.apart-hi.result }) c.new.ensures
    ((λ i. is_at_most (lo i) (hi i)) ∙ apart_ordered c.args.body.now c.args.cast.now c.lo.ensures.ordered c.hi.ensures.ordered)
