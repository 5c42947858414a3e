-- What stood before `at` and meets the query stands before `kept`.
use Rattle.std.proofs.lemmas.List.Filters.{FiltersInPlace}
use Rattle.broad_index.specs.Entries.{is_met_at}
use Rattle.broad_index.proofs.met_places.move_met.Given as goal

abbrev pub invariant-loop-at : goal.invariant-loop-at
invariant-loop-at l = FiltersInPlace (is_met_at l.boxes.boxes l.query) l.initial.places l.places l.kept l.at
