-- The world of a scene, and what a command does to it.
use Rattle.std.specs.Prelude.{ℕ, ◌+◌, Bool, true, false, nat_lt, List, [], ◌∷◌, ◌++◌, length, flat_map, if◌then◌else◌}
use Rattle.std.specs.Prelude.{is_some, Option, Some, None, Result}
use Rattle.live_table.specs.declared.handle.Handle.{Handle}
use Rattle.live_table.specs.declared.live.Live.{Live}
use Rattle.live_table.specs.Entries.{entry_at}
use Rattle.live_table.specs.Table.{next_handle}
use Rattle.ray_slabs.specs.declared.ray.Ray.{Ray}
use Rattle.broad_index.specs.declared.query.Query.{Query}
use Rattle.broad_index.specs.declared.query.Query.TheVariants.{Region, Spot, Along, Between}
use Rattle.broad_index.specs.declared.query.QKind.TheVariants as kind
use Rattle.broad_index.specs.Found.{kind_of}
use Rattle.pair_events.specs.PairEvents.{events}
use Rattle.live_queries.specs.declared.groups.Groups.TheVariants.{Of}
use Rattle.live_queries.specs.Pairs.{hits_of}
use Rattle.live_queries.specs.Queries.{entered_of, cast_of, nearest_to}
use Rattle.world_marks.specs.declared.TheConstants.{MOST_MARKS}
use Rattle.box_world.specs.World.{World as Boxes, Timeline, beginning, pairs, added, moved, masked, removed, framed, marked, gone_back}
use Rattle.pair_report.specs.declared.cause.Cause.{Cause}
use Rattle.pair_report.specs.PairReport.{add_line, stale_line, frame_line, told_line, exchanges_line, hits_line, cast_line, near_line}
use Rattle.pair_report.specs.PairReport.{mark_line, back_line, nomark_line}
use Rattle.scene_words.specs.declared.command.Command.{Command}
use Rattle.scene_words.specs.declared.command.Command.TheVariants.{Header, Add, Move, Mask, Remove, Frame, BoxQ, PointQ, RayQ, SegQ, Cast, Near, Mark, Back}
use Rattle.scene_words.specs.declared.line_fault.LineFault.{LineFault}
use Rattle.scene_words.specs.declared.version.Version.{Version}
use Rattle.play_rules.specs.Readable.{allowed_in, unless_full}

-- The version that the header named, or none; and the live boxes with the pairs of the last frame, the number of frames and the
-- exchanges since the last frame, as they are now and at each mark.
pub record World : Type 0 where
  pub version : Option Version
  pub time : Timeline

abbrev pub opening : World
opening = record { version = None; time = beginning }

-- the live boxes
abbrev pub live_in : World → List Live
live_in w = w.time.now.table.entries

-- the boxes become these, and the marks stay
abbrev pub with_now : World → Boxes → World
with_now w now = record w { time = record w.time { now = now } }

-- The world after a command; `counts` says whether exchanges are counted. A handle that no live box has changes nothing, nor do
-- blank lines and queries.
abbrev pub after : Bool → World → Command → World
after counts w (Header version) = record w { version = Some version }
after counts w (Add body masks group) = with_now w (added counts w.time.now body masks group)
after counts w (Move handle body) = with_now w (moved counts w.time.now handle body)
after counts w (Mask handle masks) = with_now w (masked w.time.now handle masks)
after counts w (Remove handle) = with_now w (removed w.time.now handle)
after counts w Frame = with_now w (framed w.time.now)
after counts w Mark = record w { time = marked w.time }
after counts w Back = record w { time = gone_back w.time }
after counts w _ = w

-- a line where no live box has the handle, and else nothing
abbrev pub unless_live : World → Handle → List ℕ
unless_live w handle = if is_some (entry_at handle (live_in w)) then [] else stale_line handle

-- the answer to a query: of the boxes in one of the mask's groups alone, here and below
abbrev pub answer : World → Query → ℕ → List ℕ
answer w query mask = hits_line (kind_of query) (hits_of (live_in w) query (Of mask))

-- the answer to a ray: by slots, or in the order in which it first meets the boxes
abbrev pub ray_answer : World → Ray → ℕ → Bool → List ℕ
ray_answer w ray mask true = hits_line kind.Along (entered_of (live_in w) ray (Of mask))
ray_answer w ray mask false = answer w (Along ray) mask

-- the last line of a frame, where `shows` asks for it
abbrev pub shown : Bool → ℕ → List ℕ
shown shows number = if shows then exchanges_line number else []

-- the lines of a frame
abbrev pub frame_reply : Bool → Boxes → List ℕ
frame_reply shows w =
    frame_line (w.frames + 1) (length (pairs w)) ++ (flat_map told_line (events w.last (pairs w)) ++ shown shows w.exchanges)

-- a mark is told with how many are held then
abbrev pub mark_reply : ℕ → List ℕ
mark_reply held = if nat_lt held MOST_MARKS then mark_line (held + 1) else nomark_line held

-- a way back is told with how many marks are left
abbrev pub back_reply : List Boxes → List ℕ
back_reply [] = nomark_line 0
back_reply (w ∷ older) = back_line (length older)

-- What is reported of a command, in the world before it. Frames end with their exchanges where `shows` asks for it.
abbrev pub reply : Bool → World → Command → List ℕ
reply shows w (Add body masks group) = add_line (next_handle w.time.now.table)
reply shows w (Move handle body) = unless_live w handle
reply shows w (Mask handle masks) = unless_live w handle
reply shows w (Remove handle) = unless_live w handle
reply shows w Frame = frame_reply shows w.time.now
reply shows w (BoxQ body mask) = answer w (Region body) mask
reply shows w (PointQ at mask) = answer w (Spot at) mask
reply shows w (RayQ ray mask entry) = ray_answer w ray mask entry
reply shows w (SegQ seg mask) = answer w (Between seg) mask
reply shows w (Cast cast mask) = cast_line (cast_of (live_in w) cast (Of mask))
reply shows w (Near at want mask) = near_line (nearest_to (live_in w) at want (Of mask))
reply shows w Mark = mark_reply (length w.time.marks)
reply shows w Back = back_reply w.time.marks
reply shows w _ = []

-- what a command that was said comes to in a world
abbrev pub allowed : World → Result Command LineFault → Result Command Cause
allowed w said = unless_full (length (live_in w)) (allowed_in w.version said)
