-- What C's plain structs stand for.
use Rattle.std.specs.Prelude.{ℕ, ◌+◌, ◌*◌, ◌^◌, ◌/◌, ◌%◌, not, ◌==◌, if◌then◌else◌, Option, Some, None, option_map}
use Rattle.fixed_box.specs.declared.point.Point.{Point}
use Rattle.fixed_box.specs.Bounds.{Bounds}
use Rattle.fixed_box.specs.Point.{is_at_most}
use Rattle.ray_slabs.specs.declared.ray.Ray.{Ray}
use Rattle.ray_slabs.specs.Vector.{widened}
use Rattle.box_cast.specs.declared.cast.Cast.{Cast}
use Rattle.live_table.specs.declared.group.Group.{Group}
use Rattle.live_table.specs.declared.handle.Handle.{Handle}
use Rattle.live_table.specs.declared.live.Live.{Live}
use Rattle.live_table.specs.declared.masks.Masks.{Masks}
use Rattle.live_queries.specs.declared.groups.Groups.{Groups}
use Rattle.live_queries.specs.declared.groups.Groups.TheVariants.{All, Of}
use Rattle.live_queries.specs.declared.nearest.NearBoxQuery.{NearBoxQuery}
use Rattle.live_queries.specs.declared.nearest.NearQuery.{NearQuery}
use Rattle.pair_events.specs.declared.hpair.HPair.{HPair}
use Rattle.pair_events.specs.declared.told.Event.{Event}
use Rattle.pair_events.specs.declared.told.Event.TheVariants.{Begin, Stay, Over}
use Rattle.pair_events.specs.declared.told.Told.{Told}
use Rattle.broad_index.specs.declared.query.Query.{Query}
use Rattle.broad_index.specs.declared.query.Query.TheVariants.{Region, Spot, Along, Between}
use Rattle.named_index.specs.declared.structure.Structure.{Structure}
use Rattle.named_index.specs.declared.structure.Structure.TheVariants.{Plain, Sap, Tree, Grid, Skin}
use Rattle.held_world.specs.declared.TheConstants.{PLAIN, SAP, TREE, GRID, SKIN, BEGIN, STAY, OVER, REGION, POINT, RAY, SEGMENT}
use Rattle.held_world.specs.declared.plain.PwPoint.{PwPoint}
use Rattle.held_world.specs.declared.plain.PwBox.{PwBox}
use Rattle.held_world.specs.declared.plain.PwGroup.{PwGroup}
use Rattle.held_world.specs.declared.plain.PwHandle.{PwHandle}
use Rattle.held_world.specs.declared.plain.PwLive.{PwLive}
use Rattle.held_world.specs.declared.plain.PwMasks.{PwMasks}
use Rattle.held_world.specs.declared.plain.PwPair.{PwPair}
use Rattle.held_world.specs.declared.plain.PwQuery.{PwQuery}
use Rattle.held_world.specs.declared.plain.PwTold.{PwTold}
use Rattle.held_world.specs.declared.questions.PwCast.{PwCast}
use Rattle.held_world.specs.declared.questions.PwNear.{PwNear}
use Rattle.held_world.specs.declared.questions.PwNearBox.{PwNearBox}
use Rattle.held_world.specs.declared.questions.PwRay.{PwRay}
use Rattle.held_world.specs.declared.squares.PwSquare.{PwSquare}

abbrev pub point_in : PwPoint → Point
point_in p = record { x = p.x; y = p.y; z = p.z }

-- the box between two corners, where the lower one is at most the upper one
abbrev pub box_between : Point → Point → Option Bounds
box_between lo hi = if is_at_most lo hi then Some (record { lo = lo; hi = hi }) else None

abbrev pub body_in : PwBox → Option Bounds
body_in b = box_between (point_in b.lo) (point_in b.hi)

abbrev pub masks_in : PwMasks → Masks
masks_in m = record { is = m.is; sees = m.sees }

-- a number other than 0 is true
abbrev pub group_in : PwGroup → Group
group_in g = record { owner = g.owner; fixed = not (g.fixed == 0) }

abbrev pub handle_in : PwHandle → Handle
handle_in h = record { slot = h.slot; generation = h.generation }

abbrev pub handle_out : Handle → PwHandle
handle_out h = record { slot = h.slot; generation = h.generation }

abbrev pub point_out : Point → PwPoint
point_out p = record { x = p.x; y = p.y; z = p.z }

abbrev pub box_out : Bounds → PwBox
box_out b = record { lo = point_out b.lo; hi = point_out b.hi }

-- a live box: its handle is known to who asks
abbrev pub live_out : Live → PwLive
live_out l = record {
  body = box_out l.body;
  masks = record { is = l.masks.is; sees = l.masks.sees };
  group = record { owner = l.group.owner; fixed = if l.group.fixed then 1 else 0 };
}

-- a live box with its handle, for who knows its slot alone
abbrev pub placed_out : Live → PwHandle × PwLive
placed_out l = (handle_out l.handle, live_out l)

abbrev pub pair_out : HPair → PwPair
pair_out p = record { a = handle_out p.a; b = handle_out p.b }

abbrev pub event_out : Event → ℕ
event_out Begin = BEGIN
event_out Stay = STAY
event_out Over = OVER

abbrev pub told_out : Told → PwTold
told_out t = record { event = event_out t.event; pair = pair_out t.pair }

-- The groups that a question looks at: with the mask 0 it looks at none, and asks for each box.
abbrev pub groups_in : ℕ → Groups
groups_in mask = if mask == 0 then All else Of mask

-- A question of one of the four kinds: a region isn't one where its corners are the wrong way round.
abbrev pub query_in : PwQuery → Option Query
query_in q =
    if q.kind == REGION then option_map Region (box_between (point_in q.a) (point_in q.b))
    else (if q.kind == POINT then Some (Spot (point_in q.a))
    else (if q.kind == RAY then Some (Along (record { from = widened (point_in q.a); dir = widened (point_in q.b) }))
    else (if q.kind == SEGMENT then Some (Between (record { a = widened (point_in q.a); b = widened (point_in q.b) })) else None)))

-- a structure by its number
abbrev pub structure_in : ℕ → Option Structure
structure_in number =
    if number == PLAIN then Some Plain
    else (if number == SAP then Some Sap
    else (if number == TREE then Some Tree
    else (if number == GRID then Some Grid
    else (if number == SKIN then Some Skin else None))))

abbrev pub structure_out : Structure → ℕ
structure_out Plain = PLAIN
structure_out Sap = SAP
structure_out Tree = TREE
structure_out Grid = GRID
structure_out Skin = SKIN

abbrev pub ray_in : PwRay → Ray
ray_in r = record { from = widened (point_in r.from); dir = widened (point_in r.direction) }

-- a box that isn't inverted, with its way
abbrev pub cast_in : PwCast → Option Cast
cast_in c = option_map (λ body. record { body = body; by = point_in c.by }) (body_in c.body)

abbrev pub near_in : PwNear → NearQuery
near_in n = record { at = point_in n.at; want = n.want; groups = groups_in n.mask }

-- the square of a distance in two words
abbrev pub square_out : ℕ → PwSquare
square_out square = record { low = square % 2 ^ 64; high = square / 2 ^ 64 }

abbrev pub square_in : PwSquare → ℕ
square_in s = s.high * 2 ^ 64 + s.low

-- a box that isn't inverted, with the square of the distance from which others count
abbrev pub near_box_in : PwNearBox → Option NearBoxQuery
near_box_in n = option_map (λ body. record { body = body; from = square_in n.from; want = n.want; groups = groups_in n.mask }) (body_in n.body)
