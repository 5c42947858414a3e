-- The nearest to a point are those to the flat box at it, of which the same is known.
use Rattle.near_boxes.specs.Nearest.{spot}
use Rattle.near_boxes.proofs.laws.nearest_law.Goals as goal

pub returns-clause-nearest : goal.returns-clause-nearest
returns-clause-nearest c bodies at want =
    let a = c.nearest_about_law.ensures.nearest bodies (spot at) want in
    record { count = a.count; seen = a.seen; rising = a.rising; left_out = a.left_out }

pub returns-clause-only : goal.returns-clause-only
returns-clause-only c bodies at want nears a =
    c.nearest_about_law.ensures.only bodies (spot at) want nears (record { count = a.count; seen = a.seen; rising = a.rising; left_out = a.left_out })
