-- A batch of steps goes on, one step after another, and ends.
use Rattle.std.proofs.Common.{◌≡◌, ◌⊎◌, inl, inr, ℕ, ◌+◌, ◌-◌, ◌<◌, ◌≤◌, true, false, List, [], ◌∷◌, ◌++◌, length, take, drop, None}
use Rattle.std.proofs.Common.{refl, sym, ap, ◌∙◌, arith, subst}
use Rattle.std.proofs.lemmas.List.{length-drop}
use Rattle.box_world.specs.World.{World}
use Rattle.box_world.specs.Answers.{State, with_world, IsSpentFrom}
use Rattle.held_world.specs.declared.TheConstants.{OK}
use Rattle.held_world.specs.Batches.{Steps, world_after, state_after, stops_first, stops_at, Stopped, RanOutAt, WasSpent, IsBatch}
use Rattle.held_world.specs.Steps.{StepDone, StepRefused, StepRanOut, StepSpent}
use Rattle.held_world.proofs.RoomFilled.{some_left, later_left, one_more}
use Rattle.fixed_box.proofs.Numbers.{nat_next}

-- The first `count` steps are done, and `rest` is left.
pub record IsUnderWay {A : Type 0} (by : Steps A) (all rest : List A) (count : ℕ) (old now : State) : Type 0 where
  pub left : rest ≡ drop count all
  pub most : count ≤ length all
  pub free : (k : ℕ) → k < count → stops_at by old all k ≡ None
  pub made : now ≡ state_after by old all count
  pub sound : (count ≡ 0) ⊎ (old.spent ≡ false)

world_after_one_more : {A : Type 0} (by : Steps A) (w : World) (xs : List A) (x : A)
    → world_after by w (xs ++ x ∷ []) ≡ by.makes (world_after by w xs) x
world_after_one_more by w [] x = refl
world_after_one_more by w (y ∷ ys) x = world_after_one_more by (by.makes w y) ys x

-- Why the next step is refused.
stops_next : {A : Type 0} (by : Steps A) (all more : List A) (x : A) (count : ℕ) (old now : State)
    → IsUnderWay by all (x ∷ more) count old now → stops_at by old all count ≡ by.stops now.time.now x
stops_next by all more x count old now u = ap (stops_first by (world_after by old.time.now (take count all))) (sym u.left)
    ∙ ap (λ (s : State). by.stops s.time.now x) (sym u.made)

sound_still : {A : Type 0} (by : Steps A) (all rest : List A) (count : ℕ) (old now : State)
    → IsUnderWay by all rest count old now → old.spent ≡ now.spent
sound_still by all rest count old now u = ap (λ (s : State). s.spent) (sym u.made)

pub batch_goes_on : {A : Type 0} (by : Steps A) (all rest more : List A) (x : A) (count : ℕ) (old now new : State)
    → IsUnderWay by all rest count old now → rest ≡ x ∷ more → StepDone by x now new → IsUnderWay by all more (count + 1) old new
batch_goes_on by all rest more x count old now new before first s =
    let u : IsUnderWay by all (x ∷ more) count old now = subst (λ r. IsUnderWay by all r count old now) first before in
    let some : count < length all = some_left all more x count u.left in
    let here : stops_at by old all count ≡ None = stops_next by all more x count old now u ∙ s.allowed in record {
      left = later_left all more x count u.left;
      most = omega (arith, some);
      free = λ k lt. elim (nat_next k count lt) [
        | inl below ↦ u.free k below
        | inr at ↦ ap (stops_at by old all) at ∙ here
      ];
      made = s.made ∙ ap (λ (t : State). with_world t (by.makes t.time.now x)) u.made
          ∙ ap (with_world old) (sym (ap (world_after by old.time.now) (one_more all more x count u.left)
          ∙ world_after_one_more by old.time.now (take count all) x));
      sound = inr (sound_still by all (x ∷ more) count old now u ∙ s.sound);
    }

pub batch_done : {A : Type 0} (by : Steps A) (all rest : List A) (count : ℕ) (old now : State)
    → IsUnderWay by all rest count old now → length rest ≡ 0 → IsBatch by all count OK old now
batch_done by all rest count old now u none =
    let same : length rest ≡ length all - count = ap length u.left ∙ length-drop count all in record {
      most = u.most;
      free = u.free;
      ended = inl (record { all = omega (arith, same, none, u.most); ok = refl; made = u.made; sound = u.sound });
    }

stopped : {A : Type 0} (by : Steps A) (all more : List A) (x : A) (count status : ℕ) (old now new : State)
    → IsUnderWay by all (x ∷ more) count old now → StepRefused by x status now new → Stopped by all count status old new
stopped by all more x count status old now new u s = record {
  some = some_left all more x count u.left;
  why = stops_next by all more x count old now u ∙ s.why;
  made = s.same ∙ u.made;
  sound = sound_still by all (x ∷ more) count old now u ∙ s.sound;
}

ran_out : {A : Type 0} (by : Steps A) (all more : List A) (x : A) (count status : ℕ) (old now new : State)
    → IsUnderWay by all (x ∷ more) count old now → StepRanOut by x status now new → RanOutAt by all count status old new
ran_out by all more x count status old now new u s = record {
  some = some_left all more x count u.left;
  none = s.none;
  allowed = stops_next by all more x count old now u ∙ s.allowed;
  left = elim s.left [
    | inl same ↦ inl (same ∙ u.made)
    | inr spent ↦ inr (subst (λ s. IsSpentFrom s new) u.made spent)
  ];
  sound = sound_still by all (x ∷ more) count old now u ∙ s.sound;
}

was_spent : {A : Type 0} (by : Steps A) (all more : List A) (x : A) (count status : ℕ) (old now new : State)
    → IsUnderWay by all (x ∷ more) count old now → StepSpent status now new → WasSpent all count status old new
was_spent by all more x count status old now new u s =
    let spent : old.spent ≡ true = sound_still by all (x ∷ more) count old now u ∙ s.spent in
    let some : count < length all = some_left all more x count u.left in
    let nothing : count ≡ 0 = elim u.sound [
      | inl none ↦ none
      | inr sound ↦ grind (arith, spent, sound)
    ] in record {
      some = omega (arith, some);
      nothing = nothing;
      none = s.none;
      spent = spent;
      same = s.same ∙ u.made ∙ ap (state_after by old all) nothing;
    }

pub batch_ends : {A : Type 0} (by : Steps A) (all rest more : List A) (x : A) (count status : ℕ) (old now new : State)
    → IsUnderWay by all rest count old now → rest ≡ x ∷ more
    → StepRefused by x status now new ⊎ (StepRanOut by x status now new ⊎ StepSpent status now new) → IsBatch by all count status old new
batch_ends by all rest more x count status old now new before first s =
    let u : IsUnderWay by all (x ∷ more) count old now = subst (λ r. IsUnderWay by all r count old now) first before in record {
      most = u.most;
      free = u.free;
      ended = elim s [
        | inl refused ↦ inr (inl (stopped by all more x count status old now new u refused))
        | inr (inl out) ↦ inr (inr (inl (ran_out by all more x count status old now new u out)))
        | inr (inr spent) ↦ inr (inr (inr (was_spent by all more x count status old now new u spent)))
      ];
    }
