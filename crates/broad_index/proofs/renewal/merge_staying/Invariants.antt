-- What is there, with what stays of the first list and what is left of the second, is what shall be there.
use Rattle.std.proofs.Common.{◌+◌, ◌||◌, filter, length}
use Rattle.broad_index.specs.Members.{has_pair}
use Rattle.broad_index.specs.Touched.{stays}
use Rattle.broad_index.proofs.Merging.{Merges}
use Rattle.broad_index.proofs.renewal.merge_staying.Given as goal

abbrev pub invariant-merge : goal.invariant-merge
invariant-merge l =
    Merges (stays l.marks) l.out.items l.left l.right (λ p. has_pair (filter (stays l.marks) l.kept) p || has_pair l.found p)

abbrev pub decreases-merge : goal.decreases-merge
decreases-merge l = length l.left + length l.right
