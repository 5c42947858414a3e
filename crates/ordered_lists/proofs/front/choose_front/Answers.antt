-- What stands before the chosen member is sorted, and is the front of all.
use Rattle.std.proofs.Common.{subst}
use Rattle.ordered_lists.specs.Ordered.{IsFront}
use Rattle.ordered_lists.specs.FrontLaws.{chosen_front}
use Rattle.ordered_lists.proofs.front.choose_front.Goals as goal

pub returns-clause-front : goal.returns-clause-front
returns-clause-front g c =
    subst (λ n. IsFront g.T.Ord.cmp n c.args.items.now c.sort_unstable.new.self) c.select_nth_unstable-front.ensures.front_len
    (chosen_front g.T.Ord.cmp g.met.T.Ord.total c.args.items.now c.select_nth_unstable-front.result.0.now c.select_nth_unstable-front.result.1.now
    c.select_nth_unstable-front.result.2.now c.sort_unstable.new.self c.select_nth_unstable-front.ensures.permutation
    c.select_nth_unstable-front.ensures.partitioned c.sort_unstable.ensures.permutation c.sort_unstable.ensures.sorted)
