-- The lines of a report.
use Rattle.std.specs.Prelude.{ℕ, List, ◌++◌, length, codes, decimal, flat_map}
use Rattle.live_table.specs.declared.handle.Handle.{Handle}
use Rattle.broad_index.specs.declared.query.QKind.{QKind}
use Rattle.broad_index.specs.declared.query.QKind.TheVariants.{Region, Spot, Along, Between, Swept}
use Rattle.pair_events.specs.declared.told.Event.{Event}
use Rattle.pair_events.specs.declared.told.Event.TheVariants.{Begin, Stay, Over}
use Rattle.pair_events.specs.declared.told.Told.{Told}
use Rattle.pair_report.specs.declared.cause.Cause.{Cause}
use Rattle.pair_report.specs.declared.cause.Cause.TheVariants as cause

-- a slot and a generation
abbrev pub handle_text : Handle → List ℕ
handle_text handle = decimal handle.slot ++ codes ":" ++ decimal handle.generation

-- a box was added
abbrev pub add_line : Handle → List ℕ
add_line handle = codes "add " ++ handle_text handle ++ codes "\n"

-- no live box has the handle
abbrev pub stale_line : Handle → List ℕ
stale_line handle = codes "stale " ++ handle_text handle ++ codes "\n"

-- a frame ended, with its number and the number of pairs
abbrev pub frame_line : ℕ → ℕ → List ℕ
frame_line number pairs = codes "frame " ++ decimal number ++ codes " " ++ decimal pairs ++ codes "\n"

-- an event is named by its word
abbrev pub event_text : Event → List ℕ
event_text Begin = codes "begin "
event_text Stay = codes "stay "
event_text Over = codes "over "

-- what became of a pair
abbrev pub told_line : Told → List ℕ
told_line told = event_text told.event ++ handle_text told.pair.a ++ codes " " ++ handle_text told.pair.b ++ codes "\n"

-- the exchanges of a frame
abbrev pub exchanges_line : ℕ → List ℕ
exchanges_line number = codes "exchanges " ++ decimal number ++ codes "\n"

-- a query is named by its command
abbrev pub kind_text : QKind → List ℕ
kind_text Region = codes "box "
kind_text Spot = codes "point "
kind_text Along = codes "ray "
kind_text Between = codes "seg "
kind_text Swept = codes "cast "

-- handles, each after a space
abbrev pub handles_text : List Handle → List ℕ
handles_text handles = flat_map (λ handle. codes " " ++ handle_text handle) handles

-- how many handles, which, and the end of the line
abbrev pub listing_text : List Handle → List ℕ
listing_text handles = decimal (length handles) ++ handles_text handles ++ codes "\n"

-- the answer to a query
abbrev pub hits_line : QKind → List Handle → List ℕ
hits_line kind handles = kind_text kind ++ listing_text handles

-- the boxes that a moved box meets
abbrev pub cast_line : List Handle → List ℕ
cast_line handles = codes "cast " ++ listing_text handles

-- the boxes nearest to a point
abbrev pub near_line : List Handle → List ℕ
near_line handles = codes "near " ++ listing_text handles

-- a mark was made, and so many are held then
abbrev pub mark_line : ℕ → List ℕ
mark_line held = codes "mark " ++ decimal held ++ codes "\n"

-- the world is that of the newest mark again, and so many marks are left
abbrev pub back_line : ℕ → List ℕ
back_line left = codes "back " ++ decimal left ++ codes "\n"

-- no further mark is allowed, or none is there to go back to, and so many are held
abbrev pub nomark_line : ℕ → List ℕ
nomark_line held = codes "nomark " ++ decimal held ++ codes "\n"

-- the input ended
abbrev pub end_line : ℕ → ℕ → ℕ → List ℕ
end_line lines frames live = codes "end " ++ decimal lines ++ codes " " ++ decimal frames ++ codes " " ++ decimal live ++ codes "\n"

-- a cause is named by its own word
abbrev pub cause_text : Cause → List ℕ
cause_text cause.Lines = codes "lines"
cause_text cause.Long = codes "long"
cause_text cause.Header = codes "header"
cause_text cause.Word = codes "word"
cause_text cause.Count = codes "count"
cause_text cause.Handle = codes "handle"
cause_text cause.Number = codes "number"
cause_text cause.Range = codes "range"
cause_text cause.Mask = codes "mask"
cause_text cause.Owner = codes "owner"
cause_text cause.Inverted = codes "inverted"
cause_text cause.Full = codes "full"

-- a line was refused
abbrev pub refused_line : ℕ → Cause → List ℕ
refused_line line c = codes "refused " ++ decimal line ++ codes " " ++ cause_text c ++ codes "\n"
