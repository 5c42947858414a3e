-- What the calls of a world see of it, why each of them refuses, and what their answers say.
use Rattle.std.specs.Prelude.{◌≡◌, Bool, true, false, ◌||◌, ◌==◌, nat_lt, List, [], length, if◌then◌else◌, Option, None, Some}
use Rattle.std.specs.Prelude.{is_some, Result, Ok, Err, ◌⊎◌}
use Rattle.fixed_box.specs.declared.TheConstants.{SLOTS}
use Rattle.live_table.specs.declared.handle.Handle.{Handle}
use Rattle.live_table.specs.Entries.{entry_at}
use Rattle.live_table.specs.Table.{least_free}
use Rattle.pair_events.specs.declared.hpair.HPair.{HPair}
use Rattle.pair_events.specs.declared.told.Told.{Told}
use Rattle.pair_events.specs.PairEvents.{events, missing}
use Rattle.box_world.specs.declared.TheConstants.{MOST_FRAMES_COUNTED, MOST_EXCHANGES}
use Rattle.box_world.specs.declared.refusal.Refusal.{Refusal}
use Rattle.box_world.specs.declared.refusal.Refusal.TheVariants.{Stale, Full, Exhausted, NoMemory}
use Rattle.box_world.specs.World.{World, Timeline, beginning, pairs, framed}

-- The world with its marks; what was told of the last frame that ended, with the pairs that began in it and those that were over; and
-- whether memory ran out in a change.
pub record State : Type 0 where
  pub time : Timeline
  pub told : List Told
  pub began : List HPair
  pub over : List HPair
  pub spent : Bool

abbrev pub opened : State
opened = record { time = beginning; told = []; began = []; over = []; spent = false }

-- with another world, and the same marks
abbrev pub with_world : State → World → State
with_world s w = record s { time = record s.time { now = w } }

-- with a world and marks
abbrev pub with_time : State → Timeline → State
with_time s t = record s { time = t }

-- the frame is over, and what it changed is told
abbrev pub after_frame : State → State
after_frame s =
    let before = s.time.now.last in
    let now = pairs s.time.now in
    record (with_world s (framed s.time.now)) { told = events before now; began = missing now before; over = missing before now }

-- a live box has the handle
abbrev pub is_live : World → Handle → Bool
is_live w handle = is_some (entry_at handle w.table.entries)

-- no more exchanges are counted
abbrev pub is_counted_out : World → Bool
is_counted_out w = nat_lt MOST_EXCHANGES w.exchanges

-- Why a box can't come: all slots are taken, or each slot without a box was given as often as may be, or the exchanges are at their end.
abbrev pub add_refusal : World → Option Refusal
add_refusal w =
    if length w.table.entries == SLOTS then Some Full
    else if least_free w.table == SLOTS || is_counted_out w then Some Exhausted
    else None

-- Why a box can't be moved: no live box has the handle, or the exchanges are at their end.
abbrev pub shift_refusal : World → Handle → Option Refusal
shift_refusal w handle = if is_live w handle then (if is_counted_out w then Some Exhausted else None) else Some Stale

-- Why a box can't get other masks or another owner and fixed mark, or go: no live box has the handle.
abbrev pub change_refusal : World → Handle → Option Refusal
change_refusal w handle = if is_live w handle then None else Some Stale

-- Why a frame can't end: the frames are at their end.
abbrev pub frame_refusal : World → Option Refusal
frame_refusal w = if w.frames == MOST_FRAMES_COUNTED then Some Exhausted else None

-- The call did what it is for.
pub record IsDone (cause : Option Refusal) (after old new : State) : Type 0 where
  pub sound : old.spent ≡ false
  pub allowed : cause ≡ None
  pub done : new ≡ after

-- The call refused for a cause, and changed nothing.
pub record IsRefused (cause : Option Refusal) (refusal : Refusal) (old new : State) : Type 0 where
  pub sound : old.spent ≡ false
  pub why : cause ≡ Some refusal
  pub same : new ≡ old

-- Memory ran out while the index was changed: the world is spent, and has what it had. Of the present world the number of exchanges
-- alone is free.
pub record IsSpentFrom (old new : State) : Type 0 where
  pub spent : new.spent ≡ true
  pub told : new.told ≡ old.told
  pub began : new.began ≡ old.began
  pub over : new.over ≡ old.over
  pub marks : new.time.marks ≡ old.time.marks
  pub table : new.time.now.table ≡ old.time.now.table
  pub last : new.time.now.last ≡ old.time.now.last
  pub frames : new.time.now.frames ≡ old.time.now.frames

-- Memory ran out in this call, for which there was no cause to refuse: the world is as before, or spent with what it had.
pub record RanOut (cause : Option Refusal) (old new : State) : Type 0 where
  pub sound : old.spent ≡ false
  pub allowed : cause ≡ None
  pub left : (new ≡ old) ⊎ IsSpentFrom old new

-- Memory ran out in a change before, and the world stays as it is.
pub record StaysSpent (old new : State) : Type 0 where
  pub spent : old.spent ≡ true
  pub same : new ≡ old

-- What a refusal says.
abbrev pub Refuses : Option Refusal → Refusal → State → State → Type 0
Refuses cause NoMemory old new = RanOut cause old new ⊎ StaysSpent old new
Refuses cause refusal old new = IsRefused cause refusal old new

-- What an answer says, where `cause` is why the call refuses, want of memory apart, and `after` is what it makes of the world else.
abbrev pub Answers : {A : Type 0} → Option Refusal → State → Result A Refusal → State → State → Type 0
Answers cause after (Ok x) old new = IsDone cause after old new
Answers cause after (Err refusal) old new = Refuses cause refusal old new
