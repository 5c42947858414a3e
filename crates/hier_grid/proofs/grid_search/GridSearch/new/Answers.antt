-- What is listed are the boxes as they are now.
use Rattle.std.proofs.Common.{sym, subst}
use Rattle.grid_boxes.specs.Buckets.{HasBuckets}
use Rattle.hier_grid.proofs.grid_search.GridSearch.new.Goals as goal

pub new-requires-clause-filled : goal.new-requires-clause-filled
new-requires-clause-filled c = subst (HasBuckets c.args.kept.now) (sym c.in-Some.ensures.same) (c.requires.listed (sym c.in-Some.ensures.fresh))
