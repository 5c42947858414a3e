-- They are laws of boxes and of queries.
use Rattle.tree_search.proofs.descent.box_law.Goals as goal

pub returns : goal.returns
returns c = record { each = c.descent_law.ensures; either_way = c.box_laws.ensures.either_way }
