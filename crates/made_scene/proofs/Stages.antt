-- Stages, one after another: how many boxes there are, how far they got, and how often a slot was given.
use Rattle.std.proofs.Common.{◌≡◌, ℕ, zero, suc, ◌+◌, ◌≤◌, List, [], ◌∷◌, ◌++◌, length, get_or, set, refl, sym, subst, ◌∙◌, arith, length-append}
use Rattle.std.proofs.lemmas.List.{length-set}
use Rattle.fixed_box.specs.declared.TheConstants.{SLOTS}
use Rattle.made_scene.specs.MadeScene.{Stage, adds, moves, frames, one_frame, with_new, with_moved, with_replaced}
use Rattle.made_scene.specs.MadeScene.{past_choice, chosen, next_bounds, moved, word, body_at, zero_box, start}
use Rattle.made_scene.specs.Ranges.{IsNear, IsAfter, IsMoving}
use Rattle.made_scene.proofs.Corners.{moved_near, near_more, zero_near}
use Rattle.made_scene.proofs.Words.{next_near}

-- what holds of each element of a list, and of what stands past its end, holds after a write
set_all : {X : Type 0} (P : X → Type 0) → (xs : List X) (i : ℕ) (x d : X) → P x → ((k : ℕ) → P (get_or xs k d)) → (k : ℕ) → P (get_or (set xs i x) k d)
set_all P [] i x d p h k = h k
set_all P (y ∷ xs) zero x d p h zero = p
set_all P (y ∷ xs) zero x d p h (suc k) = h (suc k)
set_all P (y ∷ xs) (suc i) x d p h zero = h zero
set_all P (y ∷ xs) (suc i) x d p h (suc k) = set_all P xs i x d p (λ j. h (suc j)) k

-- and after a write in front of where it holds
set_ahead : {X : Type 0} (P : X → Type 0) → (xs : List X) (i : ℕ) (x d : X)
    → ((k : ℕ) → i ≤ k → P (get_or xs k d)) → (k : ℕ) → i + 1 ≤ k → P (get_or (set xs i x) k d)
set_ahead P [] i x d h k l = h k (omega (arith, l))
set_ahead P (y ∷ xs) zero x d h zero l = absurd (omega (arith, l))
set_ahead P (y ∷ xs) zero x d h (suc k) l = h (suc k) (omega arith)
set_ahead P (y ∷ xs) (suc i) x d h zero l = absurd (omega (arith, l))
set_ahead P (y ∷ xs) (suc i) x d h (suc k) l = set_ahead P xs i x d (λ j m. h (suc j) (omega (arith, m))) k (omega (arith, l))

-- and with an element more
append_all : {X : Type 0} (P : X → Type 0) → (xs : List X) (x d : X) → P x → P d → ((k : ℕ) → P (get_or xs k d)) → (k : ℕ) → P (get_or (xs ++ x ∷ []) k d)
append_all P [] x d p q h zero = p
append_all P [] x d p q h (suc k) = q
append_all P (y ∷ xs) x d p q h zero = h zero
append_all P (y ∷ xs) x d p q h (suc k) = append_all P xs x d p q (λ j. h (suc j)) k

pub start_after : (seed : ℕ) → IsAfter 0 (start seed)
start_after seed = record { few = omega arith; named = refl; near = λ slot. zero_near; young = λ slot. omega arith }

new_after : (s : Stage) → length s.bodies + 1 ≤ SLOTS → IsAfter 0 s → IsAfter 0 (with_new s)
new_after s few h = record {
  few = omega (arith, length-append s.bodies (next_bounds s.generator ∷ []), few);
  named = omega (arith, length-append s.bodies (next_bounds s.generator ∷ []), length-append s.generations (0 ∷ []), h.named);
  near = append_all (IsNear 0) s.bodies (next_bounds s.generator) zero_box (next_near s.generator) zero_near h.near;
  young = append_all (λ n. n ≤ 0) s.generations 0 0 (omega arith) (omega arith) h.young;
}

pub adds_count : (n : ℕ) (s : Stage) → length (adds n s).after.bodies ≡ length s.bodies + n
adds_count zero s = omega arith
adds_count (suc n) s = adds_count n (with_new s) ∙ omega (arith, length-append s.bodies (next_bounds s.generator ∷ []))

pub adds_after : (n : ℕ) (s : Stage) → length s.bodies + n ≤ SLOTS → IsAfter 0 s → IsAfter 0 (adds n s).after
adds_after zero s few h = h
adds_after (suc n) s few h =
    adds_after n (with_new s) (omega (arith, few, length-append s.bodies (next_bounds s.generator ∷ []))) (new_after s (omega (arith, few)) h)

pub begins_moving : (frames : ℕ) (s : Stage) → IsAfter frames s → IsMoving frames 0 s
begins_moving frames s h = record {
  few = h.few;
  named = h.named;
  near = λ slot. near_more frames (frames + 1) (body_at s slot) (omega arith) (h.near slot);
  ahead = λ slot _. h.near slot;
  young = h.young;
}

-- one box more has moved
pub goes_moving : (frames slot : ℕ) (s : Stage) → IsMoving frames slot s → IsMoving frames (slot + 1) (with_moved s slot)
goes_moving frames slot s h =
    let body = moved (word s.generator) (body_at s slot) in
    let once = moved_near frames (word s.generator) (body_at s slot) (h.ahead slot (omega arith)) in record {
      few = omega (arith, length-set s.bodies slot body, h.few);
      named = h.named ∙ sym (length-set s.bodies slot body);
      near = set_all (IsNear (frames + 1)) s.bodies slot body zero_box once h.near;
      ahead = set_ahead (IsNear frames) s.bodies slot body zero_box h.ahead;
      young = h.young;
    }

pub moves_moving : (n slot frames : ℕ) (s : Stage) → IsMoving frames slot s → IsMoving frames (slot + n) (moves n slot s).after
moves_moving zero slot frames s h = subst (λ k. IsMoving frames k s) {x = slot} {y = slot + 0} (omega arith) h
moves_moving (suc n) slot frames s h =
    subst (λ k. IsMoving frames k (moves (suc n) slot s).after) {x = slot + 1 + n} {y = slot + suc n} (omega arith)
    (moves_moving n (slot + 1) frames (with_moved s slot) (goes_moving frames slot s h))

pub moves_count : (n slot : ℕ) (s : Stage) → length (moves n slot s).after.bodies ≡ length s.bodies
moves_count zero slot s = refl
moves_count (suc n) slot s = moves_count n (slot + 1) (with_moved s slot) ∙ length-set s.bodies slot (moved (word s.generator) (body_at s slot))

pub replaced_after : (frames slots slot : ℕ) (s : Stage) → IsMoving frames slots s → IsAfter (frames + 1) (with_replaced (past_choice s) slot)
replaced_after frames slots slot s h =
    let body = next_bounds (past_choice s).generator in
    let given = get_or s.generations slot 0 + 1 in
    let new = near_more 0 (frames + 1) body (omega arith) (next_near (past_choice s).generator) in record {
      few = omega (arith, length-set s.bodies slot body, h.few);
      named = length-set s.generations slot given ∙ h.named ∙ sym (length-set s.bodies slot body);
      near = set_all (IsNear (frames + 1)) s.bodies slot body zero_box new h.near;
      young = set_all (λ n. n ≤ frames + 1) s.generations slot given 0 (omega (arith, h.young slot)) (λ k. omega (arith, h.young k));
    }

pub frame_after : (n : ℕ) (s : Stage) → IsAfter n s → IsAfter (n + 1) (one_frame s).after
frame_after n s h =
    let m = (moves (length s.bodies) 0 s).after in
    replaced_after n (length s.bodies) (chosen m) m
    (subst (λ k. IsMoving n k m) {x = 0 + length s.bodies} {y = length s.bodies} (omega arith) (moves_moving (length s.bodies) 0 n s (begins_moving n s h)))

pub frame_count : (s : Stage) → length (one_frame s).after.bodies ≡ length s.bodies
frame_count s =
    let m = (moves (length s.bodies) 0 s).after in
    length-set m.bodies (chosen m) (next_bounds (past_choice m).generator) ∙ moves_count (length s.bodies) 0 s

pub after_more : (n k : ℕ) (s : Stage) → n ≤ k → IsAfter n s → IsAfter k s
after_more n k s l h = record {
  few = h.few;
  named = h.named;
  near = λ slot. near_more n k (body_at s slot) l (h.near slot);
  young = λ slot. omega (arith, l, h.young slot);
}
