use Rattle.std.proofs.Common.{◌≡◌, ◌++◌, ◌==◌, not, filter, length}
use Rattle.broad_index.specs.Touched.{ordered_pairs}
use Rattle.tree_search.specs.Group.{picked}
use Rattle.tree_search.proofs.group.push_picked.Given as goal

abbrev pub invariant-bits : goal.invariant-bits
invariant-bits l =
    l.found.items ++ ordered_pairs l.slot (filter (λ s. not (s == l.slot)) (picked l.bits l.rest))
    ≡ l.fn.found.items ++ ordered_pairs l.slot (filter (λ s. not (s == l.slot)) (picked l.mask l.group))

abbrev pub decreases-bits : goal.decreases-bits
decreases-bits l = length l.rest
