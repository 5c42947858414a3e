-- The first hit of a ray or of a moved box, as C is told of it.
use Rattle.std.specs.Prelude.{◌≡◌, ◌⊎◌, ℕ, Bool, true, false, List, Option, None, Some, Result, Ok, Err}
use Rattle.fixed_box.specs.Bounds.{Bounds}
use Rattle.ray_slabs.specs.Crossing.{Fraction}
use Rattle.box_cast.specs.declared.cast.Cast.{Cast}
use Rattle.live_table.specs.declared.live.Live.{Live}
use Rattle.near_boxes.specs.Nearest.{square_apart}
use Rattle.live_queries.specs.declared.face.Axis.{Axis}
use Rattle.live_queries.specs.declared.face.Axis.TheVariants.{X, Y, Z}
use Rattle.live_queries.specs.declared.face.Face.{Face}
use Rattle.live_queries.specs.declared.first_hit.FirstHit.{FirstHit}
use Rattle.live_queries.specs.Face.{contact_face}
use Rattle.live_queries.specs.First.{IsFirstTouched, IsHitAt}
use Rattle.live_queries.specs.Queries.{contact_of}
use Rattle.held_world.specs.declared.TheConstants.{OK, STALE, NO_MEMORY, INVERTED, LOWER, UPPER, NO_AXIS}
use Rattle.held_world.specs.declared.answers.Reply.{Reply}
use Rattle.held_world.specs.declared.squares.PwSquare.{PwSquare}
use Rattle.held_world.specs.declared.plain.PwHit.{PwHit}
use Rattle.held_world.specs.Asks.{IsUnanswered}
use Rattle.held_world.specs.Plain.{groups_in, handle_out, square_out}

-- an axis by its number
abbrev pub axis_out : Axis → ℕ
axis_out X = 0
axis_out Y = 1
axis_out Z = 2

abbrev pub side_out : Bool → ℕ
side_out false = LOWER
side_out true = UPPER

-- the axis of a face and its side: where there is none, no axis has the number
abbrev pub axis_of : Option Face → ℕ
axis_of None = NO_AXIS
axis_of (Some face) = axis_out face.axis

abbrev pub side_of : Option Face → ℕ
side_of None = LOWER
side_of (Some face) = side_out face.upper

-- a first hit: its box, the fraction of the way, and the face by which the box is entered
abbrev pub hit_out : FirstHit → PwHit
hit_out hit = record {
  handle = handle_out hit.handle;
  num = hit.place.num;
  den = hit.place.den;
  axis = axis_of hit.face;
  side = side_of hit.face;
}

-- how many first hits there are
abbrev pub hit_count : Option FirstHit → ℕ
hit_count None = 0
hit_count (Some hit) = 1

-- what a caller's room for a first hit has after the answer
abbrev pub hit_told : Option FirstHit → PwHit → PwHit
hit_told None room = room
hit_told (Some hit) room = hit_out hit

-- Its answer: what is to be told of the first hit, and the count is 1; or there is none, the count is 0, and the room is as it was.
pub record IsFirst (IsHit : Option FirstHit → Type 0) (spent : Bool) (reply : Reply) (room out : PwHit) : Type 0 where
  pub hit : Option FirstHit
  pub sound : spent ≡ false
  pub first : IsHit hit
  pub told : reply ≡ record { status = OK; count = hit_count hit }
  pub room_has : out ≡ hit_told hit room

-- What a question for the first hit comes to, where `IsHit` says which that is. Only want of memory keeps it from its answer, which each
-- question of a spent world meets with.
abbrev pub AsksFirst : (Option FirstHit → Type 0) → Bool → Reply → PwHit → PwHit → Type 0
AsksFirst IsHit spent reply room out = IsFirst IsHit spent reply room out ⊎ IsUnanswered NO_MEMORY reply room out

-- Where a way meets a live box: what is to be told of that, and the count is 1; or it isn't met, the count is 0, and the room is as it was.
pub record IsMeeting (meeting : Bounds → Option Fraction) (side : Fraction → Bounds → Option Face) (entry : Live) (reply : Reply) (room out : PwHit) : Type 0 where
  pub hit : Option FirstHit
  pub at : IsHitAt meeting side entry hit
  pub told : reply ≡ record { status = OK; count = hit_count hit }
  pub room_has : out ≡ hit_told hit room

-- what is told of where a way meets the live box of a handle, if there is one
abbrev pub TellsMeeting : (Bounds → Option Fraction) → (Fraction → Bounds → Option Face) → Option Live → Reply → PwHit → PwHit → Type 0
TellsMeeting meeting side None reply room out = IsUnanswered STALE reply room out
TellsMeeting meeting side (Some entry) reply room out = IsMeeting meeting side entry reply room out

-- the same for a box that is cast, where there is one
abbrev pub TellsCastMeeting : Option Cast → Option Live → Reply → PwHit → PwHit → Type 0
TellsCastMeeting None entry reply room out = IsUnanswered INVERTED reply room out
TellsCastMeeting (Some cast) entry reply room out = TellsMeeting (contact_of cast) (contact_face cast) entry reply room out

-- the square of the distance of a box, if it is one, from the live box of a handle, if there is one
abbrev pub apart_out : Option Bounds → Option Live → Result PwSquare ℕ
apart_out None entry = Err INVERTED
apart_out (Some body) None = Err STALE
apart_out (Some body) (Some live) = Ok (square_out (square_apart body live.body))

-- the same for a box that is cast, where there is one, among live boxes of the groups that a mask asks for
abbrev pub AsksFirstCast : Option Cast → List Live → ℕ → Bool → Reply → PwHit → PwHit → Type 0
AsksFirstCast None entries mask spent reply room out = IsUnanswered INVERTED reply room out
AsksFirstCast (Some cast) entries mask spent reply room out = AsksFirst (IsFirstTouched entries cast (groups_in mask)) spent reply room out
