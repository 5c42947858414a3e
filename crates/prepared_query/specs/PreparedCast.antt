-- Serves proofs alone: what is kept of a cast that is asked of many boxes.
use Rattle.std.specs.Prelude.{◌≡◌, Bool}
use Rattle.fixed_box.specs.Bounds.{Bounds}
use Rattle.box_cast.specs.declared.cast.Cast.{Cast}
use Rattle.box_cast.specs.Hull.{cast_hull}
use Rattle.prepared_query.specs.Slope.{Side, grown}
use Rattle.prepared_query.specs.Prepared.{pass_sides, slopes_of}
use Rattle.prepared_query.specs.declared.slopes.Slopes.{Slopes}

-- a box's sides grown by those of a moved box, from the moved one's lower corner on
abbrev pub grown_x : Bounds → Bounds → Side
grown_x c b = grown c.lo.x c.hi.x b.lo.x b.hi.x

abbrev pub grown_y : Bounds → Bounds → Side
grown_y c b = grown c.lo.y c.hi.y b.lo.y b.hi.y

abbrev pub grown_z : Bounds → Bounds → Side
grown_z c b = grown c.lo.z c.hi.z b.lo.z b.hi.z

-- The endless line passes through the grown box in each view.
abbrev pub pass_grown : Slopes → Bounds → Bounds → Bool
pass_grown s c b = pass_sides s (grown_x c b) (grown_y c b) (grown_z c b)

-- What is kept is the cast's hull and the line of its lower corner.
pub record IsPreparedCast (cast : Cast) (around : Bounds) (seen : Slopes) : Type 0 where
  pub hull : around ≡ cast_hull cast.body cast.by
  pub slopes : seen ≡ slopes_of cast.body.lo cast.by
