-- By which side of a box a way comes into it: by the one that it reaches exactly where it meets the box.
use Rattle.std.specs.Prelude.{zero, suc, ℤ, pos, negsuc, ◌-ℤ◌, ◌*ℤ◌, Bool, true, false, if◌then◌else◌, Option, Some, None}
use Rattle.std.specs.Option.{option_map, option_or}
use Rattle.std.specs.Ordering.{int_eq}
use Rattle.fixed_box.specs.Bounds.{Bounds}
use Rattle.ray_slabs.specs.declared.ray.Ray.{Ray}
use Rattle.ray_slabs.specs.Crossing.{Fraction}
use Rattle.box_cast.specs.declared.cast.Cast.{Cast}
use Rattle.live_queries.specs.declared.face.Axis.{Axis}
use Rattle.live_queries.specs.declared.face.Axis.TheVariants.{X, Y, Z}
use Rattle.live_queries.specs.declared.face.Face.{Face}

-- What goes a way comes, at the fraction of it, exactly to what lies so far from it on an axis: far / way = num / den.
abbrev pub is_reached : Fraction → ℤ → ℤ → Bool
is_reached t way far = int_eq (far *ℤ t.den) (t.num *ℤ way)

-- On an axis, whether the side that is reached at the fraction is the upper one: a way that goes up comes to the lower side, and one that goes down to
-- the upper one. None is reached where the way runs along both, or comes to its side at another fraction.
abbrev pub side_at : Fraction → ℤ → ℤ → ℤ → Option Bool
side_at t (pos zero) lower upper = None
side_at t (pos (suc n)) lower upper = if is_reached t (pos (suc n)) lower then Some false else None
side_at t (negsuc n) lower upper = if is_reached t (negsuc n) upper then Some true else None

-- a side of an axis as a face
abbrev pub face_on : Axis → Option Bool → Option Face
face_on axis side = option_map (λ upper. record { axis = axis; upper = upper }) side

-- the face on the first axis that has one
abbrev pub first_face : Option Bool → Option Bool → Option Bool → Option Face
first_face x y z = option_or (face_on X x) (option_or (face_on Y y) (face_on Z z))

-- on an axis, the side that a ray reaches: by its start, its direction and the two sides
abbrev pub side_from : Fraction → ℤ → ℤ → ℤ → ℤ → Option Bool
side_from t from dir lo hi = side_at t dir (lo -ℤ from) (hi -ℤ from)

-- the side that a box from `near` to `far` touches while it is moved: the lower one with its far side, and the upper one with its near side
abbrev pub side_between : Fraction → ℤ → ℤ → ℤ → ℤ → ℤ → Option Bool
side_between t near far by lo hi = side_at t by (lo -ℤ far) (hi -ℤ near)

-- The face by which a ray comes into a box at the fraction of its direction, and none where it starts within.
abbrev pub entry_face : Ray → Fraction → Bounds → Option Face
entry_face ray t body = first_face
    (side_from t ray.from.x ray.dir.x body.lo.x body.hi.x)
    (side_from t ray.from.y ray.dir.y body.lo.y body.hi.y)
    (side_from t ray.from.z ray.dir.z body.lo.z body.hi.z)

-- The face that a box which is cast touches at the fraction of its way, and none where both meet from the start on.
abbrev pub contact_face : Cast → Fraction → Bounds → Option Face
contact_face cast t body = first_face
    (side_between t cast.body.lo.x cast.body.hi.x cast.by.x body.lo.x body.hi.x)
    (side_between t cast.body.lo.y cast.body.hi.y cast.by.y body.lo.y body.hi.y)
    (side_between t cast.body.lo.z cast.body.hi.z cast.by.z body.lo.z body.hi.z)
