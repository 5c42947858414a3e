-- Those that differ from the one before them stand up to `kept`.
use Rattle.broad_index.proofs.Distinct.{DedupsInPlace}
use Rattle.broad_index.proofs.rising.move_distinct.Given as goal

abbrev pub invariant-loop-at : goal.invariant-loop-at
invariant-loop-at l = DedupsInPlace l.initial.slots l.slots l.kept l.at l.last
