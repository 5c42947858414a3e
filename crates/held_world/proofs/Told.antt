-- A status tells what the answer does that it stands for.
use Rattle.std.proofs.Common.{◌≢◌, Option, Result, Ok, Err, refl, inl, inr, arith}
use Rattle.box_world.specs.declared.refusal.Refusal.{Refusal}
use Rattle.box_world.specs.declared.refusal.Refusal.TheVariants.{Stale, Full, Exhausted, NoMemory}
use Rattle.box_world.specs.Answers.{State, Answers}
use Rattle.held_world.specs.declared.TheConstants.{NO_MEMORY}
use Rattle.held_world.specs.Answers.{status}
use Rattle.held_world.specs.Tells.{Tells}

pub told : {A : Type 0} (cause : Option Refusal) (after : State) (answer : Result A Refusal) (old new : State)
    → Answers cause after answer old new → Tells cause after (status answer) old new
told cause after (Ok x) old new done = inl (record { ok = refl; done = done })
told cause after (Err refusal) old new refuses = inr (record { refusal = refusal; told = refl; refuses = refuses })

-- and want of memory only where the answer does
pub untold : {A : Type 0} (answer : Result A Refusal) → answer ≢ Err NoMemory → status answer ≢ NO_MEMORY
untold (Ok x) some none = absurd (omega (arith, none))
untold (Err Stale) some none = absurd (omega (arith, none))
untold (Err Full) some none = absurd (omega (arith, none))
untold (Err Exhausted) some none = absurd (omega (arith, none))
untold (Err NoMemory) some none = some refl
