use Rattle.std.proofs.Common.{◌≤◌, length, IsPermutation}
use Rattle.tree_nodes.proofs.median.divide_along.Given as goal

abbrev pub invariant-divide : goal.invariant-divide
invariant-divide g l = IsPermutation l.fn.keys l.keys × (l.from ≤ l.to) × (l.to ≤ length l.keys)
