-- A sort of members that don't tie puts the list in order.
use Rattle.ordered_lists.specs.SortedLists.{only_sorted}
use Rattle.ordered_lists.proofs.order.put_in_order.Goals as goal

pub returns-clause-ordered : goal.returns-clause-ordered
returns-clause-ordered g c exact =
    only_sorted g.T.Ord.cmp g.met.T.Ord.total c.args.items.now.items c.sort_unstable.new.self.items exact c.sort_unstable.ensures.permutation
    c.sort_unstable.ensures.sorted
