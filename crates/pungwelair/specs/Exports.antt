-- What the exports say of a world that C holds.
use Rattle.std.specs.Prelude.{◌≡◌, ◌≢◌, ◌↔◌, ◌⊎◌, ℕ, ◌+◌, ◌<◌, ◌≤◌, ◌++◌, List, [], map, take, drop, zip, length, true, false, is_some}
use Rattle.std.specs.Prelude.{Option, None, Some, Result, Ok, Err, ok_or, option_map}
use Rattle.fixed_box.specs.declared.TheConstants.{SLOTS}
use Rattle.live_table.specs.declared.group.Group.{Group}
use Rattle.live_table.specs.declared.handle.Handle.{Handle}
use Rattle.live_table.specs.declared.live.Live.{Live}
use Rattle.live_table.specs.declared.masks.Masks.{Masks}
use Rattle.live_table.specs.Entries.{live_at}
use Rattle.box_world.specs.World.{pairs, masked, regrouped, marked, forgotten, gone_back}
use Rattle.box_world.specs.Answers.{opened, with_world, with_time, after_frame, change_refusal, frame_refusal}
use Rattle.any_world.specs.declared.any_world.AnyWorld.{AnyWorld}
use Rattle.any_world.specs.AnyWorld.{state_of, structure_of, counts_of, runs_out}
use Rattle.held_world.specs.declared.TheConstants.{OK, STALE, NO_MEMORY, CLOSED, ARGUMENT, NO_MARK}
use Rattle.held_world.specs.declared.answers.Reply.{Reply}
use Rattle.held_world.specs.declared.held.HeldWorld.{HeldWorld}
use Rattle.held_world.specs.declared.plain.PwBox.{PwBox}
use Rattle.held_world.specs.declared.plain.PwHandle.{PwHandle}
use Rattle.held_world.specs.declared.plain.PwLive.{PwLive}
use Rattle.held_world.specs.declared.plain.PwPair.{PwPair}
use Rattle.held_world.specs.declared.reading.PwCounts.{PwCounts}
use Rattle.held_world.specs.declared.reading.PwInfo.{PwInfo}
use Rattle.held_world.specs.Asks.{Asks, AsksPairs}
use Rattle.held_world.specs.Batches.{IsBatch}
use Rattle.held_world.specs.Changes.{adds, moves, removes, handles_given}
use Rattle.held_world.specs.Plain.{handle_out, placed_out, structure_in}
use Rattle.held_world.specs.Reading.{info_of}
use Rattle.held_world.specs.Tells.{Tells, mark_refusal}

-- What a call of a world says: where one is open it stays open, with what `says` says of it before and after, and where none is it stays
-- closed, and `closed` holds.
abbrev pub Calls : (HeldWorld → HeldWorld → Type 0) → Type 0 → Option HeldWorld → Option HeldWorld → Type 0
Calls says closed None None = closed
Calls says closed None (Some now) = ⊥
Calls says closed (Some was) None = ⊥
Calls says closed (Some was) (Some now) = says was now

-- what a call tells of a closed world that tells a number of items, with the room for them
pub record IsClosed {A : Type 0} (reply : Reply) (room out : A) : Type 0 where
  pub told : reply ≡ record { status = CLOSED; count = 0 }
  pub same : out ≡ room

-- the world has the same structure, and is as it was
pub record IsAsBefore (was now : AnyWorld) : Type 0 where
  pub state : state_of now ≡ state_of was
  pub structure : structure_of now ≡ structure_of was

-- a world was opened
pub record IsOpened (structure status : ℕ) (now : AnyWorld) : Type 0 where
  pub ok : status ≡ OK
  pub fresh : state_of now ≡ opened
  pub named : structure_in structure ≡ Some (structure_of now)

-- what opening comes to
abbrev pub Opens : ℕ → ℕ → Option HeldWorld → Option HeldWorld → Type 0
Opens structure status (Some was) after = (status ≡ ARGUMENT) × (after ≡ Some was)
Opens structure status None (Some now) = IsOpened structure status now.world
Opens structure status None None =
    ((status ≡ ARGUMENT) × (structure_in structure ≡ None)) ⊎ ((status ≡ NO_MEMORY) × (is_some (structure_in structure) ≡ true))

-- the status of closing
abbrev pub closing : Option HeldWorld → ℕ
closing None = CLOSED
closing (Some was) = OK

-- What a batch of boxes that come says.
pub record Adds (boxes : List PwBox) (masks : Masks) (group : Group) (room out : List PwHandle) (reply : Reply) (was now : AnyWorld) : Type 0 where
  pub short : length room < length boxes
      → (reply ≡ record { status = ARGUMENT; count = 0 }) × (state_of now ≡ state_of was) × (out ≡ room)
  pub added : length boxes ≤ length room
      → IsBatch (adds (counts_of was) masks group) boxes reply.count reply.status (state_of was) (state_of now)
  pub handles : length boxes ≤ length room
      → out ≡ map handle_out (take reply.count (handles_given (counts_of was) masks group (state_of was).time.now boxes)) ++ drop reply.count room
  pub structure : structure_of now ≡ structure_of was

-- What a batch of boxes that move says.
pub record Moves (handles : List PwHandle) (boxes : List PwBox) (reply : Reply) (was now : AnyWorld) : Type 0 where
  pub uneven : length handles ≢ length boxes → (reply ≡ record { status = ARGUMENT; count = 0 }) × (state_of now ≡ state_of was)
  pub moved : length handles ≡ length boxes
      → IsBatch (moves (counts_of was)) (zip handles boxes) reply.count reply.status (state_of was) (state_of now)
  pub structure : structure_of now ≡ structure_of was

-- What a batch of boxes that go says.
pub record Removes (handles : List PwHandle) (reply : Reply) (was now : AnyWorld) : Type 0 where
  pub removed : IsBatch removes handles reply.count reply.status (state_of was) (state_of now)
  pub unmarked : (state_of was).spent ≡ false → (state_of was).time.marks ≡ [] → reply.status ≢ NO_MEMORY
  pub spent : (state_of now).spent ≡ (state_of was).spent
  pub structure : structure_of now ≡ structure_of was

-- What a question says: what it comes to among the live boxes, where `none` is the status of one that is no question, and that no world is
-- changed by it.
pub record Asked (none : ℕ) (hits : List Live → Option (List Handle)) (reply : Reply) (room out : List PwHandle) (was now : AnyWorld) : Type 0 where
  pub answer : Asks none (hits (state_of was).time.now.table.entries) (state_of was).spent reply room out
  pub kept : IsAsBefore was now

-- What a call says that tells the pairs which the frame would have if it ended now, from number `from` on.
pub record ListsPairs (from : ℕ) (reply : Reply) (room out : List PwPair) (was now : AnyWorld) : Type 0 where
  pub answer : AsksPairs (pairs (state_of was).time.now) from (state_of was).spent reply room out
  pub kept : IsAsBefore was now

-- what a call says that puts its answer into the caller's place, or tells a status and leaves that as it was
abbrev pub Puts : {A : Type 0} → Result A ℕ → ℕ → A → A → Type 0
Puts (Ok x) status old new = (status ≡ OK) × (new ≡ x)
Puts (Err why) status old new = (status ≡ why) × (new ≡ old)

-- What a call says that tells the live box in a slot with its handle: no box is in a slot from `SLOTS` on.
pub record Places (slot status : ℕ) (was : AnyWorld) (old new : PwHandle × PwLive) : Type 0 where
  pub told : Puts (ok_or (option_map placed_out (live_at slot (state_of was).time.now.table.entries)) STALE) status old new
  pub past : SLOTS ≤ slot → status ≡ STALE

-- What a call says that tells what a world is: over the tree, the grid or skins none is spent.
pub record IsInfo (status : ℕ) (info : PwInfo) (was : AnyWorld) : Type 0 where
  pub ok : status ≡ OK
  pub told : info ≡ info_of was
  pub lasting : runs_out (structure_of was) ≡ false → info.spent ≡ 0

-- what a call says that gives a box other masks
pub record SetsMasks (handle : Handle) (masks : Masks) (status : ℕ) (was now : AnyWorld) : Type 0 where
  pub answer : let old = state_of was in let world = old.time.now in
      Tells (change_refusal world handle) (with_world old (masked world handle masks)) status old (state_of now)
  pub unmarked : (state_of was).spent ≡ false → (state_of was).time.marks ≡ [] → status ≢ NO_MEMORY
  pub same : status ≢ OK → state_of now ≡ state_of was
  pub structure : structure_of now ≡ structure_of was

-- what a call says that gives a box another owner and fixed mark
pub record SetsGroup (handle : Handle) (group : Group) (status : ℕ) (was now : AnyWorld) : Type 0 where
  pub answer : let old = state_of was in let world = old.time.now in
      Tells (change_refusal world handle) (with_world old (regrouped world handle group)) status old (state_of now)
  pub unmarked : (state_of was).spent ≡ false → (state_of was).time.marks ≡ [] → status ≢ NO_MEMORY
  pub same : status ≢ OK → state_of now ≡ state_of was
  pub structure : structure_of now ≡ structure_of was

-- what a call says that ends the frame
pub record Updates (status : ℕ) (counts : PwCounts) (was now : AnyWorld) : Type 0 where
  pub answer : let old = state_of was in Tells (frame_refusal old.time.now) (after_frame old) status old (state_of now)
  pub some : let new = state_of now in status ≡ OK
      → counts ≡ record { pairs = length new.time.now.last; events = length new.told; changes = length new.began + length new.over }
  pub none : status ≢ OK → counts ≡ record { pairs = 0; events = 0; changes = 0 }
  pub same : status ≢ OK → state_of now ≡ state_of was
  pub structure : structure_of now ≡ structure_of was

-- what a call says that marks the world
pub record MarksWorld (status : ℕ) (was now : AnyWorld) : Type 0 where
  pub answer : let old = state_of was in Tells (mark_refusal old.time) (with_time old (marked old.time)) status old (state_of now)
  pub spent : status ≡ NO_MEMORY → (state_of was).spent ≡ true
  pub same : status ≢ OK → state_of now ≡ state_of was
  pub structure : structure_of now ≡ structure_of was

-- what a call says that goes back
pub record GoesBack (status : ℕ) (was now : AnyWorld) : Type 0 where
  pub no_mark : (status ≡ NO_MARK) ↔ (((state_of was).spent ≡ false) × ((state_of was).time.marks ≡ []))
  pub kept : status ≡ NO_MARK → state_of now ≡ state_of was
  pub answer : let old = state_of was in status ≢ NO_MARK → Tells None (with_time old (gone_back old.time)) status old (state_of now)
  pub structure : structure_of now ≡ structure_of was

-- what a call says that gives up the oldest marks, so many of them
pub record Forgets (count status : ℕ) (was now : AnyWorld) : Type 0 where
  pub no_mark : (status ≡ NO_MARK) ↔ (((state_of was).spent ≡ false) × (length (state_of was).time.marks < count))
  pub answer : let old = state_of was in status ≢ NO_MARK → Tells None (with_time old (forgotten count old.time)) status old (state_of now)
  pub spent : status ≡ NO_MEMORY → (state_of was).spent ≡ true
  pub same : status ≢ OK → state_of now ≡ state_of was
  pub structure : structure_of now ≡ structure_of was
