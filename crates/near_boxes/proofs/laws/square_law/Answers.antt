-- A point of the box is as near as any: that with each coordinate moved into the box's interval.
use Rattle.near_boxes.proofs.NearestPoint.{square_least, nearest_point, nearest_held, square_is}
use Rattle.near_boxes.proofs.laws.square_law.Goals as goal

pub returns-clause-least : goal.returns-clause-least
returns-clause-least c at p b h = square_least at p b h

pub returns-clause-met : goal.returns-clause-met
returns-clause-met c at b h = (nearest_point at b, (nearest_held at b h, square_is at b h))
