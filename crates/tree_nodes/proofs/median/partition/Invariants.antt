use Rattle.std.proofs.Common.{◌≤◌, IsPermutation}
use Rattle.tree_nodes.proofs.median.partition.Given as goal

abbrev pub invariant-partition : goal.invariant-partition
invariant-partition g l = IsPermutation l.fn.keys l.keys × (l.from ≤ l.place) × (l.place ≤ l.at)
