-- The slots below this one are done.
use Rattle.std.proofs.Common.{◌≡◌, ℕ, ◌<◌, ◌≤◌, option_map}
use Rattle.std.specs.FinMap.{get}
use Rattle.fixed_box.specs.declared.TheConstants.{SLOTS}
use Rattle.grid_cells.specs.Cells.{standing_cell}
use Rattle.grid_boxes.proofs.standing_cells.settle_cells.Given as goal

abbrev pub invariant-slots : goal.invariant-slots
invariant-slots l = record {
  bound : l.slot ≤ SLOTS;
  done : (s : ℕ) → s < l.slot → get l.cells s ≡ option_map (standing_cell l.floor) (get l.kept s);
}
