-- What one step of a batch comes to.
use Rattle.std.specs.Prelude.{◌≡◌, ◌⊎◌, ℕ, true, false, None, Some, Result, Ok, Err}
use Rattle.box_world.specs.Answers.{State, with_world, IsSpentFrom}
use Rattle.held_world.specs.declared.TheConstants.{NO_MEMORY}
use Rattle.held_world.specs.Batches.{Steps}

-- It was done.
pub record StepDone {A : Type 0} (by : Steps A) (x : A) (old new : State) : Type 0 where
  pub sound : old.spent ≡ false
  pub allowed : by.stops old.time.now x ≡ None
  pub made : new ≡ with_world old (by.makes old.time.now x)

-- It was refused for a cause, and changed nothing.
pub record StepRefused {A : Type 0} (by : Steps A) (x : A) (status : ℕ) (old new : State) : Type 0 where
  pub sound : old.spent ≡ false
  pub why : by.stops old.time.now x ≡ Some status
  pub same : new ≡ old

-- Memory ran out in it: the world is as before, or spent with what it had.
pub record StepRanOut {A : Type 0} (by : Steps A) (x : A) (status : ℕ) (old new : State) : Type 0 where
  pub sound : old.spent ≡ false
  pub allowed : by.stops old.time.now x ≡ None
  pub none : status ≡ NO_MEMORY
  pub left : (new ≡ old) ⊎ IsSpentFrom old new

-- Memory had run out before.
pub record StepSpent (status : ℕ) (old new : State) : Type 0 where
  pub spent : old.spent ≡ true
  pub none : status ≡ NO_MEMORY
  pub same : new ≡ old

abbrev pub Stepped : {A X : Type 0} → Steps A → A → Result X ℕ → State → State → Type 0
Stepped by x (Ok y) old new = StepDone by x old new
Stepped by x (Err status) old new = StepRefused by x status old new ⊎ (StepRanOut by x status old new ⊎ StepSpent status old new)
