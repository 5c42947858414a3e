-- Definitions: a slab mirrored where the line falls, and the tests of three such slabs by pairs of axes.
use Rattle.std.specs.Prelude.{suc, ℤ, pos, negsuc, ◌-ℤ◌, ◌*ℤ◌, Bool, ◌&&◌, ◌||◌, int_lt, int_le, cond}
use Rattle.ray_slabs.specs.Vector.{Vector}
use Rattle.ray_slabs.specs.WideBounds.{WideBounds}
use Rattle.ray_slabs.specs.Crossing.{Slab, Fraction}

-- One axis of a line that doesn't fall: how far it goes at the fraction 1, and how far its start is from the face met first and from the other.
pub record MirroredSlab : Type 0 where
  pub way : ℤ
  pub near : ℤ
  pub far : ℤ

-- what rises stays, and what falls is mirrored, which exchanges the faces
abbrev pub mirrored_by : ℤ → Slab → MirroredSlab
mirrored_by (pos n) s = record { way = pos n; near = s.lo -ℤ s.from; far = s.hi -ℤ s.from }
mirrored_by (negsuc n) s = record { way = pos (suc n); near = s.from -ℤ s.hi; far = s.from -ℤ s.lo }

abbrev pub mirrored : Slab → MirroredSlab
mirrored s = mirrored_by s.dir s

-- the axes of a line from f by d and a box
abbrev pub on_x : Vector → Vector → WideBounds → MirroredSlab
on_x f d b = mirrored (record { from = f.x; dir = d.x; lo = b.lo.x; hi = b.hi.x })

abbrev pub on_y : Vector → Vector → WideBounds → MirroredSlab
on_y f d b = mirrored (record { from = f.y; dir = d.y; lo = b.lo.y; hi = b.hi.y })

abbrev pub on_z : Vector → Vector → WideBounds → MirroredSlab
on_z f d b = mirrored (record { from = f.z; dir = d.z; lo = b.lo.z; hi = b.hi.z })

-- near / way and far / way, which bound the fractions in the slab by cross products, also where way is 0
abbrev pub enter : MirroredSlab → Fraction
enter a = record { num = a.near; den = a.way }

abbrev pub leave : MirroredSlab → Fraction
leave a = record { num = a.far; den = a.way }

-- a is at most b, by cross products
abbrev pub at_most : Fraction → Fraction → Bool
at_most a b = int_le (a.num *ℤ b.den) (b.num *ℤ a.den)

-- Some fraction from 0 on is in the slab.
abbrev pub is_ahead : MirroredSlab → Bool
is_ahead a = int_le (pos 0) a.far && (int_lt (pos 0) a.way || int_le a.near (pos 0))

-- Some fraction from 0 to 1 is in the slab.
abbrev pub is_on_way : MirroredSlab → Bool
is_on_way a = int_le (pos 0) a.far && int_le a.near a.way

-- The slab of a is entered no later than that of b is left.
abbrev pub enters_by : MirroredSlab → MirroredSlab → Bool
enters_by a b = at_most (enter a) (leave b)

-- Some fraction is in both slabs.
abbrev pub overlap : MirroredSlab → MirroredSlab → Bool
overlap a b = enters_by a b && enters_by b a

-- Each two slabs have a fraction in common.
abbrev pub all_overlap : MirroredSlab → MirroredSlab → MirroredSlab → Bool
all_overlap x y z = overlap x y && overlap x z && overlap y z

abbrev pub meet_ahead : MirroredSlab → MirroredSlab → MirroredSlab → Bool
meet_ahead x y z = is_ahead x && is_ahead y && is_ahead z && all_overlap x y z

abbrev pub meet_on_way : MirroredSlab → MirroredSlab → MirroredSlab → Bool
meet_on_way x y z = is_on_way x && is_on_way y && is_on_way z && all_overlap x y z

-- The line comes to the slab no sooner than the fraction; where it runs along the slab, it comes to no face.
abbrev pub is_before : Fraction → MirroredSlab → Bool
is_before t a = int_lt (pos 0) a.way && at_most t (enter a)

-- the later of a fraction and where the line comes to the slab
abbrev pub later_by : Fraction → MirroredSlab → Fraction
later_by t a = cond (is_before t a) (enter a) t

-- the greatest of 0 and where the line comes to each slab
abbrev pub latest_by : MirroredSlab → MirroredSlab → MirroredSlab → Fraction
latest_by x y z = later_by (later_by (later_by (record { num = pos 0; den = pos 1 }) x) y) z
