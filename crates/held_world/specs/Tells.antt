-- What a single call tells by its status.
use Rattle.std.specs.Prelude.{◌≡◌, ◌⊎◌, ℕ, nat_lt, length, if◌then◌else◌, Option, None, Some}
use Rattle.world_marks.specs.declared.TheConstants.{MOST_MARKS}
use Rattle.box_world.specs.declared.refusal.Refusal.{Refusal}
use Rattle.box_world.specs.declared.refusal.Refusal.TheVariants.{Full}
use Rattle.box_world.specs.World.{Timeline}
use Rattle.box_world.specs.Answers.{State, IsDone, Refuses}
use Rattle.held_world.specs.declared.TheConstants.{OK}
use Rattle.held_world.specs.Answers.{status_of}

-- the call did what it is for
pub record TellsDone (cause : Option Refusal) (after : State) (status : ℕ) (old new : State) : Type 0 where
  pub ok : status ≡ OK
  pub done : IsDone cause after old new

-- the call refused, and tells it
pub record TellsRefusal (cause : Option Refusal) (status : ℕ) (old new : State) : Type 0 where
  pub refusal : Refusal
  pub told : status ≡ status_of refusal
  pub refuses : Refuses cause refusal old new

-- What a status says of a call, where `cause` is why it refuses, want of memory apart, and `after` is what it makes of the world else.
abbrev pub Tells : Option Refusal → State → ℕ → State → State → Type 0
Tells cause after status old new = TellsDone cause after status old new ⊎ TellsRefusal cause status old new

-- Why a world can't be marked: as many marks are held as may be.
abbrev pub mark_refusal : Timeline → Option Refusal
mark_refusal t = if nat_lt (length t.marks) MOST_MARKS then None else Some Full
