-- What is found is right, and each slot is among the rest or done.
use Rattle.std.proofs.Common.{ℕ, ◌≡◌, ◌⊎◌, true, length}
use Rattle.broad_index.specs.Members.{has_slot}
use Rattle.grid_cells.specs.Cells.{cell_of}
use Rattle.hier_grid.specs.Search.{IsSound, FindsFor}
use Rattle.hier_grid.proofs.grid_search.GridSearch.pairs_of_run.Given as goal

abbrev pub invariant-slots : goal.invariant-slots
invariant-slots l = record {
  sound : IsSound l.self l.found.pairs.items;
  whole : (s : ℕ) → has_slot l.slots s ≡ true → (has_slot l.rest s ≡ true) ⊎ FindsFor cell_of l.self s l.found.pairs.items;
}

abbrev pub decreases-slots : goal.decreases-slots
decreases-slots l = length l.rest
