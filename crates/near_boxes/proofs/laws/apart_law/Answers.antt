-- Of one box the point that is nearest to the other's lower corner is as near to the other as the box.
use Rattle.std.proofs.Common.{◌∙◌, refl}
use Rattle.near_boxes.proofs.NearestPoint.{apart_least, apart_is, nearest_point, nearest_held, square_is}
use Rattle.near_boxes.proofs.laws.apart_law.Goals as goal

pub returns-clause-least : goal.returns-clause-least
returns-clause-least c a b p q h g = apart_least a b p q h g

pub returns-clause-met : goal.returns-clause-met
returns-clause-met c a b h g =
    let p = nearest_point b.lo a in
    (p, nearest_point p b, (nearest_held b.lo a h, (nearest_held p b g, apart_is a b h g ∙ square_is p b g)))

pub returns-clause-spot : goal.returns-clause-spot
returns-clause-spot c at b = refl
