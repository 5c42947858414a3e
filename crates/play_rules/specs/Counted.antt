-- How large the numbers of a world can be after so many lines.
use Rattle.std.specs.Prelude.{ℕ, ◌*◌, ◌≤◌, sum}
use Rattle.std.specs.List.{All}
use Rattle.fixed_box.specs.declared.TheConstants.{SLOTS}
use Rattle.box_world.specs.World.{World as Boxes, Timeline}

-- One line gives at most one box, ends at most one frame, and counts at most so many exchanges: on each of three axes two endpoints
-- pass at most two of each slot.
pub record IsSmall (n : ℕ) (w : Boxes) : Type 0 where
  pub gives : sum w.table.gives ≤ n
  pub frames : w.frames ≤ n
  pub exchanges : w.exchanges ≤ 12 * SLOTS * n

-- the world as it is, and as it was at each mark
pub record IsCounted (n : ℕ) (t : Timeline) : Type 0 where
  pub now : IsSmall n t.now
  pub marks : All (IsSmall n) t.marks
