-- What a batch of steps comes to, told by how many of them were done.
use Rattle.std.specs.Prelude.{◌≡◌, ◌⊎◌, ℕ, ◌<◌, ◌≤◌, true, false, List, [], ◌∷◌, length, take, drop, Option, None, Some}
use Rattle.box_world.specs.World.{World}
use Rattle.box_world.specs.Answers.{State, with_world, IsSpentFrom}
use Rattle.held_world.specs.declared.TheConstants.{OK, NO_MEMORY}

-- What a kind of step makes of a world, and why it is refused there, by its status. Want of memory is no such cause.
pub record Steps (A : Type 0) : Type 0 where
  pub makes : World → A → World
  pub stops : World → A → Option ℕ

-- the world after steps, one after another
abbrev pub world_after : {A : Type 0} → Steps A → World → List A → World
world_after by w [] = w
world_after by w (x ∷ xs) = world_after by (by.makes w x) xs

-- the state after the first `count` steps
abbrev pub state_after : {A : Type 0} → Steps A → State → List A → ℕ → State
state_after by s steps count = with_world s (world_after by s.time.now (take count steps))

-- why the first of these steps is refused
abbrev pub stops_first : {A : Type 0} → Steps A → World → List A → Option ℕ
stops_first by w [] = None
stops_first by w (x ∷ xs) = by.stops w x

-- why the step after the first `count` is refused, in the world that those made
abbrev pub stops_at : {A : Type 0} → Steps A → State → List A → ℕ → Option ℕ
stops_at by s steps count = stops_first by (world_after by s.time.now (take count steps)) (drop count steps)

-- All steps were done. No step is none to do in a spent world too.
pub record AllDone {A : Type 0} (by : Steps A) (steps : List A) (done status : ℕ) (old new : State) : Type 0 where
  pub all : done ≡ length steps
  pub ok : status ≡ OK
  pub made : new ≡ state_after by old steps done
  pub sound : (done ≡ 0) ⊎ (old.spent ≡ false)

-- A step was refused for a cause, whose status is told; those before it were done.
pub record Stopped {A : Type 0} (by : Steps A) (steps : List A) (done status : ℕ) (old new : State) : Type 0 where
  pub some : done < length steps
  pub why : stops_at by old steps done ≡ Some status
  pub made : new ≡ state_after by old steps done
  pub sound : old.spent ≡ false

-- Memory ran out in a step that had no cause to be refused: the world is as those before it made it, or spent with what it had then.
pub record RanOutAt {A : Type 0} (by : Steps A) (steps : List A) (done status : ℕ) (old new : State) : Type 0 where
  pub some : done < length steps
  pub none : status ≡ NO_MEMORY
  pub allowed : stops_at by old steps done ≡ None
  pub left : (new ≡ state_after by old steps done) ⊎ IsSpentFrom (state_after by old steps done) new
  pub sound : old.spent ≡ false

-- Memory had run out in a change before, and the world stays as it is.
pub record WasSpent {A : Type 0} (steps : List A) (done status : ℕ) (old new : State) : Type 0 where
  pub some : 0 < length steps
  pub nothing : done ≡ 0
  pub none : status ≡ NO_MEMORY
  pub spent : old.spent ≡ true
  pub same : new ≡ old

-- A batch was done in order up to the first step that is refused: `done` of them, none of which had a cause to be.
pub record IsBatch {A : Type 0} (by : Steps A) (steps : List A) (done status : ℕ) (old new : State) : Type 0 where
  pub most : done ≤ length steps
  pub free : (k : ℕ) → k < done → stops_at by old steps k ≡ None
  pub ended : AllDone by steps done status old new ⊎ (Stopped by steps done status old new
      ⊎ (RanOutAt by steps done status old new ⊎ WasSpent steps done status old new))
