-- What is found is right, and each box before the place is done.
use Rattle.std.proofs.Common.{ℕ, ◌≡◌, ◌-◌, ◌≤◌, true, length, take}
use Rattle.broad_index.specs.Members.{has_slot}
use Rattle.grid_boxes.specs.Copies.{slots_of}
use Rattle.hier_grid.specs.Search.{IsSound, FindsAround}
use Rattle.grid_cells.specs.Cells.{standing_cell}
use Rattle.hier_grid.proofs.pair_search.pairs_of_all.Given as goal

abbrev pub invariant-boxes : goal.invariant-boxes
invariant-boxes l = record {
  within : l.place ≤ length l.copies;
  sound : IsSound l.boxes.bodies l.found.pairs.items;
  done : (s : ℕ) → has_slot (slots_of (take l.place l.copies)) s ≡ true → FindsAround (standing_cell l.boxes.floor) l.boxes.bodies s l.found.pairs.items;
}

abbrev pub decreases-boxes : goal.decreases-boxes
decreases-boxes l = length l.copies - l.place
