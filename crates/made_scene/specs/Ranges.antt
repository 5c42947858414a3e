-- How far the boxes of a made scene get.
use Rattle.std.specs.Prelude.{◌≡◌, ℕ, ◌+◌, ◌*◌, ◌≤◌, pos, neg_ℤ, ◌≤ℤ◌, length, slice_index, IsTrue}
use Rattle.fixed_box.specs.declared.TheConstants.{SLOTS}
use Rattle.fixed_box.specs.declared.point.Point.{Point}
use Rattle.fixed_box.specs.Bounds.{Bounds}
use Rattle.fixed_box.specs.Point.{is_at_most}
use Rattle.made_scene.specs.MadeScene.{Stage, body_at}

-- A corner of a box that has moved at most so many times: it was made between 0 and 17,626,111.
pub record IsNearPoint (times : ℕ) (p : Point) : Type 0 where
  pub x_low : neg_ℤ (pos (32640 * times)) ≤ℤ p.x
  pub y_low : neg_ℤ (pos (32640 * times)) ≤ℤ p.y
  pub z_low : neg_ℤ (pos (32640 * times)) ≤ℤ p.z
  pub x_high : p.x ≤ℤ pos (17626111 + 32640 * times)
  pub y_high : p.y ≤ℤ pos (17626111 + 32640 * times)
  pub z_high : p.z ≤ℤ pos (17626111 + 32640 * times)

-- a box that has moved at most so many times
pub record IsNear (times : ℕ) (b : Bounds) : Type 0 where
  pub ordered : IsTrue (is_at_most b.lo b.hi)
  pub lo : IsNearPoint times b.lo
  pub hi : IsNearPoint times b.hi

-- a stage after at most so many frames
pub record IsAfter (frames : ℕ) (s : Stage) : Type 0 where
  pub few : length s.bodies ≤ SLOTS
  pub named : length s.generations ≡ length s.bodies
  pub near : (slot : ℕ) → IsNear frames (body_at s slot)
  pub young : (slot : ℕ) → slice_index s.generations slot ≤ frames

-- a stage within the frame after so many, in which the first slots have moved and the others not yet
pub record IsMoving (frames slots : ℕ) (s : Stage) : Type 0 where
  pub few : length s.bodies ≤ SLOTS
  pub named : length s.generations ≡ length s.bodies
  pub near : (slot : ℕ) → IsNear (frames + 1) (body_at s slot)
  pub ahead : (slot : ℕ) → slots ≤ slot → IsNear frames (body_at s slot)
  pub young : (slot : ℕ) → slice_index s.generations slot ≤ frames
