-- What a question comes to.
use Rattle.std.specs.Prelude.{◌≡◌, ◌⊎◌, ℕ, Bool, false, List, drop, length, Option, None, Some}
use Rattle.live_table.specs.declared.handle.Handle.{Handle}
use Rattle.pair_events.specs.declared.hpair.HPair.{HPair}
use Rattle.held_world.specs.declared.TheConstants.{OK, NO_MEMORY}
use Rattle.held_world.specs.declared.answers.Reply.{Reply}
use Rattle.held_world.specs.declared.plain.PwHandle.{PwHandle}
use Rattle.held_world.specs.declared.plain.PwPair.{PwPair}
use Rattle.held_world.specs.Copies.{copied}
use Rattle.held_world.specs.Plain.{handle_out, pair_out}

-- its answer: the room has the first of the boxes that were to be found, and the count is that of all
pub record IsFound (hits : List Handle) (spent : Bool) (reply : Reply) (room out : List PwHandle) : Type 0 where
  pub sound : spent ≡ false
  pub told : reply ≡ record { status = OK; count = length hits }
  pub copied : out ≡ copied handle_out hits room

-- it told a status and nothing else
pub record IsUnanswered {A : Type 0} (status : ℕ) (reply : Reply) (room out : A) : Type 0 where
  pub told : reply ≡ record { status = status; count = 0 }
  pub same : out ≡ room

-- What a question comes to that has to find these boxes in a world, where `none` is the status of one that is no question. Only want of
-- memory keeps it from its answer, which each question of a spent world meets with.
abbrev pub Asks : ℕ → Option (List Handle) → Bool → Reply → List PwHandle → List PwHandle → Type 0
Asks none None spent reply room out = IsUnanswered none reply room out
Asks none (Some hits) spent reply room out = IsFound hits spent reply room out ⊎ IsUnanswered NO_MEMORY reply room out

-- the pairs from number `from` on: the room has the first of those, and the count is that of all pairs
pub record IsListed (pairs : List HPair) (from : ℕ) (spent : Bool) (reply : Reply) (room out : List PwPair) : Type 0 where
  pub sound : spent ≡ false
  pub told : reply ≡ record { status = OK; count = length pairs }
  pub copied : out ≡ copied pair_out (drop from pairs) room

-- What a question for the pairs comes to, which only want of memory keeps from its answer.
abbrev pub AsksPairs : List HPair → ℕ → Bool → Reply → List PwPair → List PwPair → Type 0
AsksPairs pairs from spent reply room out = IsListed pairs from spent reply room out ⊎ IsUnanswered NO_MEMORY reply room out
