-- Within which range the parts of a command lie.
use Rattle.std.specs.Prelude.{ℕ, ℤ, pos, negsuc, ◌≤ℤ◌, ◌≤◌, ◌<◌, ◌^◌, IsTrue}
use Rattle.fixed_box.specs.declared.TheConstants.{SLOTS}
use Rattle.fixed_box.specs.Bounds.{Bounds}
use Rattle.fixed_box.specs.Point.{is_at_most}
use Rattle.live_table.specs.declared.handle.Handle.{Handle}
use Rattle.live_table.specs.declared.masks.Masks.{Masks}
use Rattle.ray_slabs.specs.Vector.{Vector, widened}
use Rattle.scene_words.specs.declared.command.Command.{Command}
use Rattle.scene_words.specs.declared.command.Command.TheVariants.{Blank, Header, Add, Move, Mask, Remove, Frame, BoxQ, PointQ, RayQ, SegQ, Cast, Near, Mark}
use Rattle.scene_words.specs.declared.command.Command.TheVariants.{Back}

-- a raw number of 32 bits: from -2,147,483,648 to 2,147,483,647
abbrev pub IsRaw : ℤ → Type 0
IsRaw r = (negsuc 2147483647 ≤ℤ r) × (r ≤ℤ pos 2147483647)

-- each part is such a number
pub record IsRawVector (v : Vector) : Type 0 where
  pub x : IsRaw v.x
  pub y : IsRaw v.y
  pub z : IsRaw v.z

-- a box with such corners, of which the lower one is at most the upper one
pub record IsRawBox (b : Bounds) : Type 0 where
  pub lo : IsRawVector (widened b.lo)
  pub hi : IsRawVector (widened b.hi)
  pub ordered : IsTrue (is_at_most b.lo b.hi)

-- two numbers of 32 bits
pub record IsHandle (h : Handle) : Type 0 where
  pub slot : h.slot < 2 ^ 32
  pub generation : h.generation < 2 ^ 32

-- masks of 32 groups
pub record IsMasks (m : Masks) : Type 0 where
  pub is : m.is < 2 ^ 32
  pub sees : m.sees < 2 ^ 32

-- so many boxes can be asked for
pub record IsWanted (want : ℕ) : Type 0 where
  pub some : 1 ≤ want
  pub few : want ≤ SLOTS

-- Each part of a command is within the range that a line can say.
abbrev pub IsInRange : Command → Type 0
IsInRange Blank = Unit {0}
IsInRange (Header version) = Unit {0}
IsInRange (Add body masks group) = IsRawBox body × IsMasks masks × (group.owner < 2 ^ 32)
IsInRange (Move handle body) = IsHandle handle × IsRawBox body
IsInRange (Mask handle masks) = IsHandle handle × IsMasks masks
IsInRange (Remove handle) = IsHandle handle
IsInRange Frame = Unit {0}
IsInRange (BoxQ body mask) = IsRawBox body × (mask < 2 ^ 32)
IsInRange (PointQ at mask) = IsRawVector (widened at) × (mask < 2 ^ 32)
IsInRange (RayQ ray mask entry) = IsRawVector ray.from × IsRawVector ray.dir × (mask < 2 ^ 32)
IsInRange (SegQ seg mask) = IsRawVector seg.a × IsRawVector seg.b × (mask < 2 ^ 32)
IsInRange (Cast cast mask) = IsRawBox cast.body × IsRawVector (widened cast.by) × (mask < 2 ^ 32)
IsInRange (Near at want mask) = IsRawVector (widened at) × IsWanted want × (mask < 2 ^ 32)
IsInRange Mark = Unit {0}
IsInRange Back = Unit {0}

-- What the types of the code leave open of that: each part of a ray or of a segment is a raw number of 32 bits, and no more boxes
-- are wanted than there may be.
abbrev pub IsPrintable : Command → Type 0
IsPrintable Blank = Unit {0}
IsPrintable (Header version) = Unit {0}
IsPrintable (Add body masks group) = Unit {0}
IsPrintable (Move handle body) = Unit {0}
IsPrintable (Mask handle masks) = Unit {0}
IsPrintable (Remove handle) = Unit {0}
IsPrintable Frame = Unit {0}
IsPrintable (BoxQ body mask) = Unit {0}
IsPrintable (PointQ at mask) = Unit {0}
IsPrintable (RayQ ray mask entry) = IsRawVector ray.from × IsRawVector ray.dir
IsPrintable (SegQ seg mask) = IsRawVector seg.a × IsRawVector seg.b
IsPrintable (Cast cast mask) = Unit {0}
IsPrintable (Near at want mask) = IsWanted want
IsPrintable Mark = Unit {0}
IsPrintable Back = Unit {0}
