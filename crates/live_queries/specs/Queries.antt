-- Which live boxes a ray enters and a box that is cast touches, in what order, and which are nearest to a point or to a box.
use Rattle.std.specs.Prelude.{ℕ, Bool, ◌&&◌, nat_le, if◌then◌else◌, List, map, filter, take, Option, Some, None, is_some}
use Rattle.std.specs.Option.{option_cmp}
use Rattle.std.specs.Ordering.{nat_cmp, on, then_cmp}
use Rattle.std.specs.declared.cmp.Ordering.{Ordering}
use Rattle.fixed_box.specs.declared.point.Point.{Point}
use Rattle.fixed_box.specs.Bounds.{Bounds}
use Rattle.ray_slabs.specs.declared.ray.Ray.{Ray}
use Rattle.ray_slabs.specs.Crossing.{Fraction, in_ray}
use Rattle.ray_slabs.specs.First.{first, value_cmp}
use Rattle.ray_slabs.specs.WideBounds.{widened_box}
use Rattle.box_cast.specs.declared.cast.Cast.{Cast}
use Rattle.box_cast.specs.Cast.{first_contact}
use Rattle.near_boxes.specs.Nearest.{square, square_apart}
use Rattle.ordered_lists.specs.Ordered.{ordered_by}
use Rattle.live_table.specs.declared.handle.Handle.{Handle}
use Rattle.live_table.specs.declared.live.Live.{Live}
use Rattle.live_table.specs.Entries.{slot_of}
use Rattle.live_queries.specs.declared.groups.Groups.{Groups}
use Rattle.live_queries.specs.Pairs.{is_asked_for}

-- the handles of boxes
abbrev pub handles : List Live → List Handle
handles entries = map (λ entry. entry.handle) entries

-- where a ray first meets a box, and none where it misses it
abbrev pub entry_of : Ray → Bounds → Option Fraction
entry_of ray body = if in_ray ray.from ray.dir (widened_box body) then Some (first ray.from ray.dir (widened_box body)) else None

-- where on its way a box that is cast first meets another, and none where it doesn't
abbrev pub contact_of : Cast → Bounds → Option Fraction
contact_of cast body = first_contact cast.body cast.by body

-- a box is met on the way, and in one of the groups that are asked for
abbrev pub is_met : (Bounds → Option Fraction) → Groups → Live → Bool
is_met place groups entry = is_some (place entry.body) && is_asked_for groups entry

-- by the place on the way, and where two are equal by slot
abbrev pub by_place : (Bounds → Option Fraction) → Live → Live → Ordering
by_place place = then_cmp (on (λ entry. place entry.body) (option_cmp value_cmp)) (on slot_of nat_cmp)

-- the boxes that are met on the way, of the groups that are asked for, in the order in which they are met
abbrev pub met_in_order : (Bounds → Option Fraction) → List Live → Groups → List Live
met_in_order place entries groups = ordered_by (by_place place) (filter (is_met place groups) entries)

-- The boxes that a ray meets, in rising order of where it first meets them and then of the slot.
abbrev pub entered_of : List Live → Ray → Groups → List Handle
entered_of entries ray groups = handles (met_in_order (entry_of ray) entries groups)

-- The boxes that a box which is cast meets on its way, in rising order of where it first meets them and then of the slot.
abbrev pub cast_of : List Live → Cast → Groups → List Handle
cast_of entries cast groups = handles (met_in_order (contact_of cast) entries groups)

-- the boxes of some groups
abbrev pub asked_for : List Live → Groups → List Live
asked_for entries groups = filter (is_asked_for groups) entries

-- by the square of the distance from a point, and where two are equal by slot
abbrev pub by_distance : Point → Live → Live → Ordering
by_distance at = then_cmp (on (λ entry. square at entry.body) nat_cmp) (on slot_of nat_cmp)

-- The boxes that are nearest to a point, of the groups that are asked for, in rising order of the square of the distance and then of the slot, and at
-- most so many. The groups are looked at before the list is cut.
abbrev pub nearest_to : List Live → Point → ℕ → Groups → List Handle
nearest_to entries at want groups = handles (take want (ordered_by (by_distance at) (asked_for entries groups)))

-- by the square of the distance from a box, and where two are equal by slot
abbrev pub by_gap : Bounds → Live → Live → Ordering
by_gap body = then_cmp (on (λ entry. square_apart body entry.body) nat_cmp) (on slot_of nat_cmp)

-- the square of the distance from a box is at least so much
abbrev pub is_from : Bounds → ℕ → Live → Bool
is_from body from entry = nat_le from (square_apart body entry.body)

-- the boxes of some groups that lie at least so far, as a square, from a box
abbrev pub asked_from : List Live → Bounds → ℕ → Groups → List Live
asked_from entries body from groups = filter (is_from body from) (asked_for entries groups)

-- The boxes that are nearest to a box, of those at least so far from it and of the groups that are asked for, in rising order of the square of the
-- distance and then of the slot, and at most so many. Distance and groups are looked at before the list is cut.
abbrev pub nearest_to_box : List Live → Bounds → ℕ → ℕ → Groups → List Handle
nearest_to_box entries body from want groups = handles (take want (ordered_by (by_gap body) (asked_from entries body from groups)))
