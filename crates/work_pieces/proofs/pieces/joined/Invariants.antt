use Rattle.std.proofs.Common.{◌≡◌, ◌++◌, map}
use Rattle.std.specs.Vec.Iter.{into_iter_items}
use Rattle.work_pieces.specs.Runs.{put_together}
use Rattle.work_pieces.proofs.pieces.joined.Given as goal

-- the answers so far are those of the lists that were taken
abbrev pub invariant-lists : goal.invariant-lists
invariant-lists g l = (l.answers.items ≡ put_together (map (λ list. list.items) l.yielded)) × (l.yielded ++ into_iter_items l.list-iterator ≡ l.fn.lists.items)
