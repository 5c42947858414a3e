-- The numbers by which a caller in C hears what a call came to.
use Rattle.std.specs.Prelude.{ℕ, Result, Ok, Err}
use Rattle.box_world.specs.declared.refusal.Refusal.{Refusal}
use Rattle.box_world.specs.declared.refusal.Refusal.TheVariants.{Stale, Full, Exhausted, NoMemory}
use Rattle.held_world.specs.declared.TheConstants.{OK, STALE, FULL, NO_MEMORY, EXHAUSTED}

abbrev pub status_of : Refusal → ℕ
status_of Stale = STALE
status_of Full = FULL
status_of Exhausted = EXHAUSTED
status_of NoMemory = NO_MEMORY

-- that of an answer
abbrev pub status : {A : Type 0} → Result A Refusal → ℕ
status (Ok x) = OK
status (Err refusal) = status_of refusal
