-- What the exports say of a reader that C holds.
use Rattle.std.specs.Prelude.{◌≡◌, ◌⊎◌, ℕ, Option, None, Some}
use Rattle.held_world.specs.declared.TheConstants.{OK, NO_MEMORY, CLOSED, ARGUMENT}
use Rattle.held_world.specs.declared.held.HeldWorld.{HeldWorld}
use Rattle.world_reader.specs.declared.TheConstants.{SHARED}
use Rattle.world_reader.specs.Reads.{Reads}

-- what C holds of a reader: nothing if it isn't open, else the world that it reads, if it reads one
abbrev pub Reader : Type 0
Reader = Option (Option HeldWorld)

-- it tells a status, and what C holds is as it was
abbrev pub Refuses : {A : Type 0} → ℕ → ℕ → A → A → Type 0
Refuses why status before after = (status ≡ why) × (after ≡ before)

-- It did what it is for, which leaves this.
abbrev pub Leaves : {A : Type 0} → A → ℕ → A → Type 0
Leaves wanted status after = (status ≡ OK) × (after ≡ wanted)

-- what opening a reader comes to
abbrev pub OpensReader : ℕ → Reader → Reader → Type 0
OpensReader status (Some reads) after = Refuses ARGUMENT status (Some reads) after
OpensReader status None after = Leaves (Some None) status after ⊎ Refuses NO_MEMORY status None after

-- what closing a reader comes to: one that reads a world stays open
abbrev pub ClosesReader : ℕ → Reader → Reader → Type 0
ClosesReader status None after = Refuses CLOSED status None after
ClosesReader status (Some None) after = Leaves None status after
ClosesReader status (Some (Some read)) after = Refuses SHARED status (Some (Some read)) after

-- What sharing a world comes to, of the world and the reader: an open world goes to an open reader that reads none.
abbrev pub Shares : ℕ → Option HeldWorld × Reader → Option HeldWorld × Reader → Type 0
Shares status (None, reader) after = Refuses CLOSED status (None, reader) after
Shares status (Some held, None) after = Refuses CLOSED status (Some held, None) after
Shares status (Some held, Some (Some read)) after = Refuses SHARED status (Some held, Some (Some read)) after
Shares status (Some held, Some None) after = Leaves (None, Some (Some held)) status after ⊎ Refuses NO_MEMORY status (Some held, Some None) after

-- What joining comes to, of a reader and another: the other, which is open and reads none, reads from then on what the reader reads.
abbrev pub Joins : ℕ → Reader × Reader → Reader × Reader → Type 0
Joins status (None, other) after = Refuses CLOSED status (None, other) after
Joins status (Some None, other) after = Refuses CLOSED status (Some None, other) after
Joins status (Some (Some read), None) after = Refuses CLOSED status (Some (Some read), None) after
Joins status (Some (Some read), Some (Some theirs)) after = Refuses SHARED status (Some (Some read), Some (Some theirs)) after
Joins status (Some (Some read), Some None) after =
    Leaves (Some (Some read), Some (Some read)) status after ⊎ Refuses NO_MEMORY status (Some (Some read), Some None) after

-- What unsharing comes to, of a reader and the two words for a world: the reader reads none from then on. The world that it read is open
-- again, as it was, or others read it still, and then the status is `SHARED`.
abbrev pub Unshares : ℕ → Reader × Option HeldWorld → Reader × Option HeldWorld → Type 0
Unshares status (reader, Some held) after = Refuses ARGUMENT status (reader, Some held) after
Unshares status (None, None) after = Refuses CLOSED status (None, None) after
Unshares status (Some None, None) after = Refuses CLOSED status (Some None, None) after
Unshares status (Some (Some read), None) after = Leaves (Some None, Some read) status after ⊎ ((status ≡ SHARED) × (after ≡ (Some None, None)))

-- what a question says of the world that is read, and what it says if none is read or the reader isn't open
abbrev pub Answers : (HeldWorld → Type 0) → Type 0 → Reader → Type 0
Answers says closed None = closed
Answers says closed (Some reads) = Reads says closed reads

-- What a question says of a reader, which is as it was after it: so is the world that it reads.
pub record AsksReader (says : HeldWorld → Type 0) (closed : Type 0) (before after : Reader) : Type 0 where
  pub answer : Answers says closed before
  pub same : after ≡ before
