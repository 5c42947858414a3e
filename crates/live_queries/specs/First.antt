-- Which live box a way meets first, where, and by which face.
use Rattle.std.specs.Prelude.{◌≡◌, List, [], ◌∷◌, Option, Some, None, option_map}
use Rattle.fixed_box.specs.Bounds.{Bounds}
use Rattle.ray_slabs.specs.declared.ray.Ray.{Ray}
use Rattle.ray_slabs.specs.Crossing.{Fraction}
use Rattle.box_cast.specs.declared.cast.Cast.{Cast}
use Rattle.box_cast.specs.Cast.{IsSameValue}
use Rattle.live_table.specs.declared.handle.Handle.{Handle}
use Rattle.live_table.specs.declared.live.Live.{Live}
use Rattle.live_queries.specs.declared.groups.Groups.{Groups}
use Rattle.live_queries.specs.declared.face.Face.{Face}
use Rattle.live_queries.specs.declared.first_hit.FirstHit.{FirstHit}
use Rattle.live_queries.specs.Face.{entry_face, contact_face}
use Rattle.live_queries.specs.Queries.{met_in_order, entry_of, contact_of}

-- A hit is that of a live box: it has its handle, the value of the place at which it is met, and the face that is reached there.
pub record IsHitOf (meeting : Bounds → Option Fraction) (side : Fraction → Bounds → Option Face) (entry : Live) (hit : FirstHit) : Type 0 where
  pub handle : hit.handle ≡ entry.handle
  pub place : IsSameValue (Some hit.place) (meeting entry.body)
  pub face : hit.face ≡ side hit.place entry.body

-- the hit of a live box, and none where it isn't met
abbrev pub IsHitAt : (Bounds → Option Fraction) → (Fraction → Bounds → Option Face) → Live → Option FirstHit → Type 0
IsHitAt meeting side entry None = IsSameValue None (meeting entry.body)
IsHitAt meeting side entry (Some hit) = IsHitOf meeting side entry hit

-- the hit of the first of some live boxes, and none where there is no box
abbrev pub IsHitOfFirst : (Bounds → Option Fraction) → (Fraction → Bounds → Option Face) → List Live → Option FirstHit → Type 0
IsHitOfFirst meeting side [] None = Unit {0}
IsHitOfFirst meeting side [] (Some hit) = ⊥
IsHitOfFirst meeting side (entry ∷ later) None = ⊥
IsHitOfFirst meeting side (entry ∷ later) (Some hit) = IsHitOf meeting side entry hit

-- The hit of the box that a ray enters first, of the groups that are asked for; of those that it enters at one place that of the lowest slot.
abbrev pub IsFirstEntered : List Live → Ray → Groups → Option FirstHit → Type 0
IsFirstEntered entries ray groups hit = IsHitOfFirst (entry_of ray) (entry_face ray) (met_in_order (entry_of ray) entries groups) hit

-- The hit of the box that a box which is cast meets first on its way, of the groups that are asked for, and of those at one place that of the lowest slot.
abbrev pub IsFirstTouched : List Live → Cast → Groups → Option FirstHit → Type 0
IsFirstTouched entries cast groups hit = IsHitOfFirst (contact_of cast) (contact_face cast) (met_in_order (contact_of cast) entries groups) hit

-- the first of a list, and none where it is empty
abbrev pub first_of : {X : Type 0} → List X → Option X
first_of [] = None
first_of (x ∷ later) = Some x

-- What is told has the first of some handles, and nothing is told if there is no handle.
abbrev pub HasFirst : List Handle → Option FirstHit → Type 0
HasFirst handles told = option_map (λ hit. hit.handle) told ≡ first_of handles
