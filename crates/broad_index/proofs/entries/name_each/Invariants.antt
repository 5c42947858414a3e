-- The places before `at` are named, and the others stand as they were.
use Rattle.std.proofs.Common.{◌≡◌, ◌++◌, map, take, drop, slice_index_or}
use Rattle.broad_index.proofs.entries.name_each.Given as goal

abbrev pub invariant-loop-at : goal.invariant-loop-at
invariant-loop-at l = l.places ≡ map (λ k. slice_index_or l.slots k 0) (take l.at l.initial.places) ++ drop l.at l.initial.places
