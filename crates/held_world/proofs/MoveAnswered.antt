-- What the answer to a move says of it as a step.
use Rattle.std.proofs.Common.{◌≡◌, ◌⊎◌, inl, inr, ℕ, Bool, Option, Some, option_map, refl, sym, ap, ◌∙◌, subst}
use Rattle.fixed_box.specs.Bounds.{Bounds}
use Rattle.live_table.specs.declared.handle.Handle.{Handle}
use Rattle.box_world.specs.declared.refusal.Refusal.{Refusal}
use Rattle.box_world.specs.declared.refusal.Refusal.TheVariants.{Stale, Full, Exhausted, NoMemory}
use Rattle.box_world.specs.World.{moved}
use Rattle.box_world.specs.Answers.{State, IsDone, IsRefused, Refuses, shift_refusal, with_world}
use Rattle.held_world.specs.declared.plain.PwBox.{PwBox}
use Rattle.held_world.specs.declared.plain.PwHandle.{PwHandle}
use Rattle.held_world.specs.Answers.{status_of}
use Rattle.held_world.specs.Batches.{Steps}
use Rattle.held_world.specs.Changes.{changed_by, stopped_by, moves}
use Rattle.held_world.specs.Plain.{body_in, handle_in}
use Rattle.held_world.specs.Steps.{StepDone, StepRefused, StepRanOut, StepSpent}

pub move_done : (counts : Bool) (old new : State) (h : PwHandle) (b : PwBox) (handle : Handle) (body : Bounds)
    → handle ≡ handle_in h → body_in b ≡ Some body
    → IsDone (shift_refusal old.time.now handle) (with_world old (moved counts old.time.now handle body)) old new → StepDone (moves counts) (h, b) old new
move_done counts old new h b handle body named is answer =
    let w = old.time.now in
    let a = subst (λ (k : Handle). IsDone (shift_refusal w k) (with_world old (moved counts w k body)) old new) named answer in record {
      sound = a.sound;
      allowed = ap (stopped_by (option_map status_of (shift_refusal w (handle_in h)))) is ∙ ap (option_map status_of) a.allowed;
      made = a.done ∙ ap (λ o. with_world old (changed_by w (λ k. moved counts w (handle_in h) k) o)) (sym is);
    }

refused_so : {A : Type 0} (by : Steps A) (x : A) (cause : Option Refusal) (refusal : Refusal) (old new : State)
    → by.stops old.time.now x ≡ option_map status_of cause → IsRefused cause refusal old new → StepRefused by x (status_of refusal) old new
refused_so by x cause refusal old new stops a = record { sound = a.sound; why = stops ∙ ap (option_map status_of) a.why; same = a.same }

ends_so : {A : Type 0} (by : Steps A) (x : A) (cause : Option Refusal) (refusal : Refusal) (old new : State)
    → by.stops old.time.now x ≡ option_map status_of cause → Refuses cause refusal old new
    → StepRefused by x (status_of refusal) old new ⊎ (StepRanOut by x (status_of refusal) old new ⊎ StepSpent (status_of refusal) old new)
ends_so by x cause Stale old new stops a = inl (refused_so by x cause Stale old new stops a)
ends_so by x cause Full old new stops a = inl (refused_so by x cause Full old new stops a)
ends_so by x cause Exhausted old new stops a = inl (refused_so by x cause Exhausted old new stops a)
ends_so by x cause NoMemory old new stops (inl out) = inr (inl (record {
  sound = out.sound;
  allowed = stops ∙ ap (option_map status_of) out.allowed;
  none = refl;
  left = out.left;
}))
ends_so by x cause NoMemory old new stops (inr spent) = inr (inr (record { spent = spent.spent; none = refl; same = spent.same }))

pub move_refused : (counts : Bool) (old new : State) (h : PwHandle) (b : PwBox) (handle : Handle) (body : Bounds) (refusal : Refusal) (status : ℕ)
    → handle ≡ handle_in h → body_in b ≡ Some body → status ≡ status_of refusal
    → Refuses (shift_refusal old.time.now handle) refusal old new
    → StepRefused (moves counts) (h, b) status old new ⊎ (StepRanOut (moves counts) (h, b) status old new ⊎ StepSpent status old new)
move_refused counts old new h b handle body refusal status named is told answer =
    let w = old.time.now in
    let a = subst (λ (k : Handle). Refuses (shift_refusal w k) refusal old new) named answer in
    subst (λ (n : ℕ). StepRefused (moves counts) (h, b) n old new ⊎ (StepRanOut (moves counts) (h, b) n old new ⊎ StepSpent n old new)) (sym told)
    (ends_so (moves counts) (h, b) (shift_refusal w (handle_in h)) refusal old new
    (ap (stopped_by (option_map status_of (shift_refusal w (handle_in h)))) is) a)
