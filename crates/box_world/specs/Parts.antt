-- Serves proofs alone: the parts that a world keeps, as the world and the marked worlds that they stand for.
use Rattle.std.specs.Prelude.{◌≡◌, ℕ, ◌+◌, ◌^◌, ◌<◌, Bool, true, false, List, [], ◌∷◌, reverse, Option, None, Some, is_some, if◌then◌else◌}
use Rattle.std.specs.Ordering.{nat_cmp}
use Rattle.std.specs.FinMap.{FinMap}
use Rattle.fixed_box.specs.Bounds.{Bounds}
use Rattle.live_table.specs.declared.live.Live.{Live}
use Rattle.live_table.specs.Bodies.{bodies_of}
use Rattle.live_table.specs.Table.{Table, IsTable}
use Rattle.pair_events.specs.declared.hpair.HPair.{HPair}
use Rattle.pair_events.specs.declared.told.Told.{Told}
use Rattle.pair_events.specs.PairEvents.{events, missing, told_of}
use Rattle.live_queries.specs.InHandles.{AreCurrent}
use Rattle.live_queries.specs.Pairs.{pairs_of}
use Rattle.world_marks.specs.Marks.{Mark, IsReturn, or_kept}
use Rattle.world_marks.specs.Undone.{undone}
use Rattle.box_world.specs.declared.parts.Parts.{Parts}
use Rattle.box_world.specs.declared.since.Since.{Since}
use Rattle.box_world.specs.declared.since.Since.TheVariants.{Changed, Current, Same}
use Rattle.box_world.specs.declared.refusal.Refusal.{Refusal}
use Rattle.box_world.specs.declared.refusal.Refusal.TheVariants.{Stale, Full, Exhausted, NoMemory}
use Rattle.box_world.specs.World.{World, Timeline}
use Rattle.box_world.specs.Answers.{State}

-- the world that a mark leads back to from this one
abbrev pub marked_world : World → Mark → World
marked_world w m = record { table = undone m.undos w.table; last = or_kept m.kept w.last; frames = m.frames; exchanges = m.exchanges }

-- the worlds of marks, the newest first: each mark leads to its own from that of the next newer one
abbrev pub worlds_back : World → List Mark → List World
worlds_back w [] = []
worlds_back w (m ∷ older) = marked_world w m ∷ worlds_back (marked_world w m) older

-- each mark, the newest first, can be gone back to from the table of the next newer one
abbrev pub CanReturn : Table → List Mark → Type 0
CanReturn t [] = Unit {0}
CanReturn t (m ∷ older) = IsReturn m t × CanReturn (undone m.undos t) older

-- the world and its marks, which are kept the newest last
abbrev pub timeline : World → List Mark → Timeline
timeline w marks = record { now = w; marks = worlds_back w (reverse marks) }

-- the exchanges are those of the index and those before it was last cleared on a way back
abbrev pub world_in : {B : Type 0} → (B → ℕ) → Parts B → World
world_in exchanges p = record { table = p.table; last = p.pair_table; frames = p.frames; exchanges = p.earlier + exchanges p.index }

abbrev pub timeline_in : {B : Type 0} → (B → ℕ) → Parts B → Timeline
timeline_in exchanges p = timeline (world_in exchanges p) p.marks.marks

-- what was told of the last frame that ended, by its pairs, those that began and those that were over
abbrev pub told_in : {B : Type 0} → Parts B → List Told
told_in p = told_of (or_kept p.shown p.pair_table) p.began.items p.over.items

abbrev pub state_in : {B : Type 0} → (B → ℕ) → Bool → Parts B → State
state_in exchanges spent p =
    record { time = timeline_in exchanges p; told = told_in p; began = p.began.items; over = p.over.items; spent = spent }

-- what still holds after a box moved or came
abbrev pub still_current : Since → Since
still_current Changed = Changed
still_current Current = Current
still_current Same = Current

-- With other last pairs, where a mark kept some; those of the frame that was told of are kept then.
abbrev pub restored : {B : Type 0} → Bool → List HPair → Parts B → Parts B
restored keeps last p = record p {
  pair_table = if keeps then last else p.pair_table;
  shown = if keeps then Some (or_kept p.shown p.pair_table) else p.shown;
}

-- What of the last frame still holds: nothing, or that the boxes of its pairs are live and may pair, or that its pairs are those of the
-- boxes as they stand.
abbrev pub StillHolds : Since → List Live → List HPair → Type 0
StillHolds Changed entries last = Unit {0}
StillHolds Current entries last = AreCurrent entries last
StillHolds Same entries last = last ≡ pairs_of entries

-- What was told is as it was.
pub record TellSame {B : Type 0} (old new : Parts B) : Type 0 where
  pub told : told_in new ≡ told_in old
  pub began : new.began ≡ old.began
  pub over : new.over ≡ old.over

-- What is told is what became of each pair between these two lists.
pub record TellsOf {B : Type 0} (before now : List HPair) (p : Parts B) : Type 0 where
  pub told : told_in p ≡ events before now
  pub began : p.began.items ≡ missing now before
  pub over : p.over.items ≡ missing before now

-- What holds while memory hasn't run out in a change: the index has the live boxes, there is a way back to each mark, the exchanges
-- fit 64 bits, and of the last frame still holds what is said to.
pub record IsSound {B : Type 0} (bodies : B → FinMap nat_cmp Bounds) (spent : B → Bool) (exchanges : B → ℕ) (p : Parts B) : Type 0 where
  pub sound : spent p.index ≡ false
  pub boxes : bodies p.index ≡ bodies_of p.table.entries
  pub table : IsTable p.table
  pub returns : CanReturn p.table (reverse p.marks.marks)
  pub counted : p.earlier + exchanges p.index < 2 ^ 64
  pub since : StillHolds p.since p.table.entries p.pair_table

-- The parts stand for this world, with the same marks, and what was told is as it was.
pub record IsChanged {B : Type 0} (bodies : B → FinMap nat_cmp Bounds) (spent : B → Bool) (exchanges : B → ℕ) (w : World)
    (old new : Parts B) : Type 0 where
  pub time : timeline_in exchanges new ≡ record (timeline_in exchanges old) { now = w }
  pub tells : TellSame old new
  pub kept : IsSound bodies spent exchanges new

-- The pairs are those of the boxes, and what became of each since the last frame is told. All else that a world is seen by is as it was.
pub record IsTold {B : Type 0} (bodies : B → FinMap nat_cmp Bounds) (spent : B → Bool) (exchanges : B → ℕ) (old new : Parts B) : Type 0 where
  pub time :
      timeline_in exchanges new
      ≡ record (timeline_in exchanges old) { now = record (world_in exchanges old) { last = pairs_of old.table.entries } }
  pub tells : TellsOf old.pair_table (pairs_of old.table.entries) new
  pub kept : IsSound bodies spent exchanges new

-- All but the index is as it was, and memory ran out there.
pub record IsCutOff {B : Type 0} (spent : B → Bool) (old new : Parts B) : Type 0 where
  pub index : spent new.index ≡ true
  pub table : new.table ≡ old.table
  pub last : new.pair_table ≡ old.pair_table
  pub marks : new.marks.marks ≡ old.marks.marks
  pub frames : new.frames ≡ old.frames
  pub tells : TellSame old new

-- What is to be noted of a handle's box before a change: nothing where no mark is held, and else the box as it is.
abbrev pub IsToNote : List Mark → Option Live → ℕ → Option Live → Type 0
IsToNote marks found spare None = marks ≡ []
IsToNote marks found spare (Some live) = (found ≡ Some live) × (0 < spare)

-- why a handle's box isn't changed, by the box that has the handle
abbrev pub Explains : Option Live → Refusal → Type 0
Explains found Stale = found ≡ None
Explains found NoMemory = is_some found ≡ true
Explains found Full = ⊥
Explains found Exhausted = ⊥
