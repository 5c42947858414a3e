-- The place is free on the level that was reached.
use Rattle.std.proofs.Common.{◌-◌, ◌<◌, ◌≤◌}
use Rattle.cell_table.specs.declared.TheConstants.{LEVELS}
use Rattle.grid_boxes.specs.Leveled.{HasHole}
use Rattle.grid_boxes.proofs.level_pool.LevelPool.carry.Given as goal

abbrev pub invariant-up : goal.invariant-up
invariant-up l = record { free : HasHole l.boxes l.slot l.level l.free l.self; low : l.level < LEVELS }

abbrev pub decreases-up : goal.decreases-up
decreases-up l = l.to - l.level

abbrev pub invariant-down : goal.invariant-down
invariant-down l = record { free : HasHole l.boxes l.slot l.level l.free l.self; low : l.level < LEVELS; reached : l.to ≤ l.level }

abbrev pub decreases-down : goal.decreases-down
decreases-down l = l.level - l.to
