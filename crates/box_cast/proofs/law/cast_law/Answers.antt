-- The laws are lemmas on what rays and segments tell.
use Rattle.std.proofs.Common.{◌∙◌, sym}
use Rattle.std.specs.Cmp.{first_so, second_so}
use Rattle.std.specs.Cmp.Derive.{both_true}
use Rattle.fixed_box.specs.Point.{is_at_most}
use Rattle.ray_slabs.specs.Vector.{widened}
use Rattle.box_cast.specs.Widening.{origin, widened_by}
use Rattle.box_cast.proofs.Ordered.{apart_wider}
use Rattle.box_cast.proofs.Contact.{some_law, first_meets}
use Rattle.box_cast.proofs.Slid.{RayTold, as_seg, fraction_law}
use Rattle.box_cast.proofs.Swept.{hull_meets}
use Rattle.box_cast.proofs.law.cast_law.Goals as goal

told : goal.After-first_law → RayTold
told c = record { seg = c.seg_law.ensures.fraction; ray = c.ray_law.ensures.fraction; entry = c.first_law.ensures.first; among = c.first_law.ensures.candidate }

pub returns-clause-fraction : goal.returns-clause-fraction
returns-clause-fraction c = fraction_law (told c)

pub returns-clause-some : goal.returns-clause-some
returns-clause-some c = some_law

pub returns-clause-first : goal.returns-clause-first
returns-clause-first c = first_meets (told c)

pub returns-clause-hull : goal.returns-clause-hull
returns-clause-hull c body v b within e = hull_meets body v b within ((fraction_law (told c) body v b).0 e)

pub returns-clause-enclosed : goal.returns-clause-enclosed
returns-clause-enclosed c body v outer inner e h =
    let low = first_so (is_at_most outer.lo inner.lo) (is_at_most inner.hi outer.hi) e in
    let high = second_so (is_at_most outer.lo inner.lo) (is_at_most inner.hi outer.hi) e in
    as_seg body v outer
    ∙ c.seg_law.ensures.enclosed origin (widened v) (widened_by outer body) (widened_by inner body)
    (both_true (apart_wider outer.lo inner.lo body.hi low) (apart_wider inner.hi outer.hi body.lo high))
    (sym (as_seg body v inner) ∙ h)
