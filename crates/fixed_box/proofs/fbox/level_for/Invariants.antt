use Rattle.std.proofs.Common.{ℕ, ◌<◌, ◌≤◌}
use Rattle.fixed_box.specs.Bounds.{cell_side}
use Rattle.fixed_box.proofs.fbox.level_for.Given as goal

-- the cells of the levels tried so far are too short
abbrev pub invariant-loop-level : goal.invariant-loop-level
invariant-loop-level l = (k : ℕ) → k < l.level → cell_side k ≤ l.side
