-- The nearest slots stand beside the nearest boxes, and no box is nearer than 0.
use Rattle.live_queries.proofs.NearestHandles.{nearest_slots, at_spot}
use Rattle.live_queries.proofs.laws.nearest_box_law.Goals as goal

pub returns-clause-nearest : goal.returns-clause-nearest
returns-clause-nearest c t body from want groups is = nearest_slots t is body from want groups

pub returns-clause-spot : goal.returns-clause-spot
returns-clause-spot c es at want groups = at_spot es at want groups
