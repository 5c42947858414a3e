-- Serves proofs alone: where there is no cause to refuse a box, and how states are equal.
use Rattle.std.proofs.Common.{◌≡◌, ◌≢◌, ◌==◌, Bool, true, false, ℕ, List, reverse, length, Option, None, Result, Ok, Err, inl, inr, refl, sym, ap, ◌∙◌}
use Rattle.std.proofs.Common.{◌<◌, ◌⊎◌, subst, arith}
use Rattle.std.proofs.lemmas.Bool.{ne_eqb}
use Rattle.fixed_box.specs.declared.TheConstants.{SLOTS}
use Rattle.pair_events.specs.declared.hpair.HPair.{HPair}
use Rattle.pair_events.specs.declared.told.Told.{Told}
use Rattle.live_table.specs.declared.handle.Handle.{Handle}
use Rattle.live_table.specs.Table.{Table, least_free, next_handle}
use Rattle.box_world.specs.World.{World, Timeline}
use Rattle.std.specs.Result.{IsErrAnd}
use Rattle.box_world.specs.declared.refusal.Refusal.{Refusal}
use Rattle.box_world.specs.declared.refusal.Refusal.TheVariants.{NoMemory}
use Rattle.box_world.specs.declared.parts.Parts.{Parts}
use Rattle.box_world.specs.Answers.{State, Answers, IsSpentFrom, RanOut, StaysSpent, Refuses, add_refusal, shift_refusal, is_counted_out, is_live}
use Rattle.box_world.specs.Parts.{world_in, worlds_back, state_in, IsCutOff}
use Rattle.box_world.proofs.Marked.{same_worlds}

pub may_add : (w : World) → length w.table.entries ≢ SLOTS → least_free w.table ≢ SLOTS → is_counted_out w ≡ false → add_refusal w ≡ None
may_add w free left within =
    let unfull : (length w.table.entries == SLOTS) ≡ false = ne_eqb (length w.table.entries) SLOTS free in
    let unspent : (least_free w.table == SLOTS) ≡ false = ne_eqb (least_free w.table) SLOTS left in
    rw (unfull, unspent, within) refl

-- where there is no cause to refuse a move
pub may_shift : (w : World) (handle : Handle) → is_live w handle ≡ true → is_counted_out w ≡ false → shift_refusal w handle ≡ None
may_shift w handle live within = rw (live, within) refl

-- where there is a next handle a slot is free
pub slot_left : (handle : Handle) (t : Table) → handle ≡ next_handle t → handle.slot < SLOTS → least_free t ≢ SLOTS
slot_left handle t is small none = let same : handle.slot ≡ least_free t = ap (λ h. h.slot) is in absurd (omega (arith, same, small, none))

pub same_state : (t u : Timeline) (es fs : List Told) (bs cs os ps : List HPair) (spent : Bool) → t ≡ u → es ≡ fs → bs ≡ cs → os ≡ ps
    → ◌≡◌ {A = State} (record { time = t; told = es; began = bs; over = os; spent = spent }) (record { time = u; told = fs; began = cs; over = ps; spent = spent })
same_state t u es fs bs cs os ps spent time told began over =
    ap (λ a. record { time = a; told = es; began = bs; over = os; spent = spent }) time
    ∙ ap (λ a. record { time = u; told = a; began = bs; over = os; spent = spent }) told
    ∙ ap (λ a. record { time = u; told = fs; began = a; over = os; spent = spent }) began
    ∙ ap (λ a. record { time = u; told = fs; began = cs; over = a; spent = spent }) over

-- an answer of want of memory alone, where the world is as before
pub ran_out : {A : Type 0} (cause : Option Refusal) (after old new : State) (result : Result A Refusal) → IsErrAnd result (λ r. r ≡ NoMemory)
    → old.spent ≡ false → cause ≡ None → new ≡ old → Answers cause after result old new
ran_out cause after old new (Ok x) is sound allowed same = absurd is
ran_out cause after old new (Err e) is sound allowed same =
    subst (λ r. Refuses cause r old new) (sym is) (inl (record { sound = sound; allowed = allowed; left = inl same }))

-- what is cut off by want of memory leaves the world with what it had
pub spent_from : {B : Type 0} (exchanges : B → ℕ) (spent : B → Bool) (before : Bool) (old new : Parts B) → IsCutOff spent old new
    → IsSpentFrom (state_in exchanges before old) (state_in exchanges true new)
spent_from exchanges spent before old new is =
    let v = world_in exchanges new in
    let w = world_in exchanges old in record {
      spent = refl;
      told = is.tells.told;
      began = ap (λ v. v.items) is.tells.began;
      over = ap (λ v. v.items) is.tells.over;
      marks = ap (λ ms. worlds_back v (reverse ms)) is.marks ∙ same_worlds v w (reverse old.marks.marks) is.table is.last;
      table = is.table;
      last = is.last;
      frames = is.frames;
    }

-- want of memory, where the world is spent with what it had
pub cut_off : (cause : Option Refusal) (old new : State) → old.spent ≡ false → cause ≡ None → IsSpentFrom old new
    → RanOut cause old new ⊎ StaysSpent old new
cut_off cause old new sound allowed is = inl (record { sound = sound; allowed = allowed; left = inr is })
