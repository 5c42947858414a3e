-- What a question of a reader comes to.
use Rattle.std.specs.Prelude.{Option, Some, None}
use Rattle.held_world.specs.declared.TheConstants.{CLOSED}
use Rattle.held_world.specs.declared.answers.Reply.{Reply}
use Rattle.held_world.specs.declared.held.HeldWorld.{HeldWorld}
use Rattle.held_world.specs.Asks.{IsUnanswered}

-- What it says of the world that the reader reads, or what it says without one.
abbrev pub Reads : (HeldWorld → Type 0) → Type 0 → Option HeldWorld → Type 0
Reads says closed None = closed
Reads says closed (Some read) = says read

-- what it tells without a world, with the room for its answer
abbrev pub ReadsNone : {A : Type 0} → Reply → A → A → Type 0
ReadsNone reply room out = IsUnanswered CLOSED reply room out
