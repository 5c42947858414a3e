-- The commands of a made scene are allowed: its boxes keep their slots, so a removed box is live and a slot is free for each added one.
use Rattle.std.proofs.Common.{◌≡◌, ℕ, zero, suc, ◌+◌, ◌<◌, ◌≤◌, true, nat_lt, List, [], ◌∷◌, ◌++◌, length, Some, Ok, refl, sym, subst}
use Rattle.std.proofs.Common.{ap, ◌∙◌, arith, get_or}
use Rattle.std.proofs.lemmas.Bool.Decides.{nat_tests}
use Rattle.std.proofs.lemmas.List.{length-append, length-set}
use Rattle.std.proofs.lemmas.Nat.{mod_below}
use Rattle.fixed_box.specs.Bounds.{Bounds}
use Rattle.fixed_box.specs.declared.TheConstants.{SLOTS}
use Rattle.live_table.specs.declared.TheConstants.{MOST_GIVES}
use Rattle.live_table.specs.declared.group.Group.{Group}
use Rattle.live_table.specs.declared.masks.Masks.{Masks}
use Rattle.scene_words.specs.declared.command.Command.{Command}
use Rattle.scene_words.specs.declared.command.Command.TheVariants.{Header, Add, Remove}
use Rattle.scene_words.specs.declared.version.Version.TheVariants.{One}
use Rattle.play_rules.specs.AllowedScene.{AreAllowed, after_all}
use Rattle.play_rules.specs.World.{World, opening, after, allowed}
use Rattle.made_scene.specs.MadeScene.{Stage, Part, before, nothing, ◌then◌, adds, moves, replacement, questions, one_frame, frames, start, made_scene}
use Rattle.made_scene.specs.MadeScene.{with_new, with_moved, add_command, move_command, handle_at, next_bounds, next_masks, nobodys}
use Rattle.made_scene.specs.MadeScene.{moved, word, body_at, chosen, past_choice}
use Rattle.scene_drill.specs.Allowed.{IsMade, IsAllowed}
use Rattle.scene_drill.proofs.Slots.{many_follow, new_follows, new_young, moved_follows, fewer_follow, replaced_follows, replaced_young}

both_allowed : (w : World) (cs ds : List Command) → AreAllowed w cs → AreAllowed (after_all w cs) ds → AreAllowed w (cs ++ ds)
both_allowed w [] ds a b = b
both_allowed w (c ∷ cs) ds a b = (a.0, both_allowed (after true w c) cs ds a.1 b)

pub after_both : (w : World) (cs ds : List Command) → after_all w (cs ++ ds) ≡ after_all (after_all w cs) ds
after_both w [] ds = refl
after_both w (c ∷ cs) ds = after_both (after true w c) cs ds

-- one part of a scene after another
then_allowed : (few many n m : ℕ) (w : World) (part : Part) (rest : Stage → Part) → IsAllowed few n w part
    → (IsMade few n part.after (after_all w part.commands) → IsAllowed many m (after_all w part.commands) (rest part.after))
    → IsAllowed many m w (part then rest)
then_allowed few many n m w part rest a b =
    let later = b a.made in
    record {
      allowed = both_allowed w part.commands (rest part.after).commands a.allowed later.allowed;
      made = subst (IsMade many m (rest part.after).after) (sym (after_both w part.commands (rest part.after).commands)) later.made;
    }

before_allowed : (boxes n : ℕ) (w : World) (c : Command) (part : Part) → allowed w (Ok c) ≡ Ok c → IsAllowed boxes n (after true w c) part
    → IsAllowed boxes n w (before c part)
before_allowed boxes n w c part ok a = record { allowed = (ok, a.allowed); made = a.made }

-- where a slot is free
add_allowed : (w : World) (body : Bounds) (masks : Masks) (group : Group) → w.version ≡ Some One → length w.time.now.table.entries < SLOTS
    → allowed w (Ok (Add body masks group)) ≡ Ok (Add body masks group)
add_allowed w body masks group h low =
    let free : nat_lt (length w.time.now.table.entries) SLOTS ≡ true = grind (arith, nat_tests) in
    rw (h, free) refl

adds_allowed : (n few : ℕ) (s : Stage) (w : World) → few + n ≤ SLOTS → IsMade few 0 s w → IsAllowed (few + n) 0 w (adds n s)
adds_allowed zero few s w room h = subst (λ k. IsAllowed k 0 w (nothing s)) {x = few} {y = few + zero} (omega arith) (record { allowed = tt; made = h })
adds_allowed (suc n) few s w room h =
    let body = next_bounds s.generator in
    let masks = next_masks s.generator in
    let count : length s.generations ≡ few = h.generations in
    let many : length w.time.now.table.entries ≡ length s.generations = many_follow s.generations w.time.now.table h.table in
    let made : IsMade (few + 1) 0 (with_new s) (after true w (add_command s)) = record {
      header = h.header;
      bodies = length-append s.bodies (body ∷ []) ∙ ap (λ k. k + 1) h.bodies;
      generations = length-append s.generations (0 ∷ []) ∙ ap (λ k. k + 1) count;
      young = λ slot. new_young s.generations slot 0 h.young;
      table = new_follows s.generations w.time.now.table body masks nobodys h.table (omega (arith, count, room));
    } in
    let rest : IsAllowed (few + 1 + n) 0 (after true w (add_command s)) (adds n (with_new s)) =
    adds_allowed n (few + 1) (with_new s) (after true w (add_command s)) (omega (arith, room)) made in
    before_allowed (few + suc n) 0 w (add_command s) (adds n (with_new s)) (add_allowed w body masks nobodys h.header (omega (arith, many, count, room)))
    (subst (λ k. IsAllowed k 0 (after true w (add_command s)) (adds n (with_new s))) {x = few + 1 + n} {y = few + suc n} (omega arith) rest)

moves_allowed : (n slot boxes replaced : ℕ) (s : Stage) (w : World) → IsMade boxes replaced s w → IsAllowed boxes replaced w (moves n slot s)
moves_allowed zero slot boxes replaced s w h = record { allowed = tt; made = h }
moves_allowed (suc n) slot boxes replaced s w h =
    let body = moved (word s.generator) (body_at s slot) in
    before_allowed boxes replaced w (move_command s slot) (moves n (slot + 1) (with_moved s slot)) (rw h.header refl)
    (moves_allowed n (slot + 1) boxes replaced (with_moved s slot) (after true w (move_command s slot)) (record {
      header = h.header;
      bodies = length-set s.bodies slot body ∙ h.bodies;
      generations = h.generations;
      young = h.young;
      table = moved_follows s.generations w.time.now.table (handle_at s slot) body h.table;
    }))

replacement_allowed : (slot boxes replaced : ℕ) (s : Stage) (w : World) → slot < boxes → boxes ≤ SLOTS → replaced + 1 < MOST_GIVES → IsMade boxes replaced s w
    → IsAllowed boxes (replaced + 1) w (replacement slot s)
replacement_allowed slot boxes replaced s w low few short h =
    let body = next_bounds s.generator in
    let masks = next_masks s.generator in
    let left = after true w (Remove (handle_at s slot)) in
    let count : length s.generations ≡ boxes = h.generations in
    let within : slot < length s.generations = omega (arith, count, low) in
    let many : length left.time.now.table.entries + 1 ≡ length s.generations = fewer_follow s.generations w.time.now.table slot h.table within in
    record {
      allowed = (rw h.header refl, (add_allowed left body masks nobodys h.header (omega (arith, many, count, few)), tt));
      made = record {
        header = h.header;
        bodies = length-set s.bodies slot body ∙ h.bodies;
        generations = length-set s.generations slot (get_or s.generations slot 0 + 1) ∙ count;
        young = λ k. replaced_young s.generations slot k replaced h.young;
        table = replaced_follows s.generations w.time.now.table slot body masks nobodys h.table within (omega (arith, short, h.young slot));
      };
    }

questions_allowed : (slot boxes replaced : ℕ) (s : Stage) (w : World) → IsMade boxes replaced s w → IsAllowed boxes replaced w (questions slot s)
questions_allowed slot boxes replaced s w h = record {
  allowed = rw h.header (refl, (refl, (refl, (refl, (refl, tt)))));
  made = record { header = h.header; bodies = h.bodies; generations = h.generations; young = h.young; table = h.table };
}

-- a number modulo the number of boxes is the slot of one
chosen_below : (boxes : ℕ) (s : Stage) → 1 ≤ boxes → length s.bodies ≡ boxes → chosen s < boxes
chosen_below boxes s some h = subst (λ k. chosen s < k) h (mod_below (word s.generator) (length s.bodies) (subst (λ k. 0 < k) (sym h) some))

frame_allowed : (boxes replaced : ℕ) (s : Stage) (w : World) → 1 ≤ boxes → boxes ≤ SLOTS → replaced + 1 < MOST_GIVES → IsMade boxes replaced s w
    → IsAllowed boxes (replaced + 1) w (one_frame s)
frame_allowed boxes replaced s w some few short h =
    then_allowed boxes boxes replaced (replaced + 1) w (moves (length s.bodies) 0 s)
    (λ m. replacement (chosen m) (past_choice m) then questions (chosen m))
    (moves_allowed (length s.bodies) 0 boxes replaced s w h) (λ made.
    let m = (moves (length s.bodies) 0 s).after in
    let v = after_all w (moves (length s.bodies) 0 s).commands in
    let slot = chosen m in
    then_allowed boxes boxes (replaced + 1) (replaced + 1) v (replacement slot (past_choice m)) (questions slot)
    (replacement_allowed slot boxes replaced (past_choice m) v (chosen_below boxes m some made.bodies) few short
    (record { header = made.header; bodies = made.bodies; generations = made.generations; young = made.young; table = made.table }))
    (λ after. questions_allowed slot boxes (replaced + 1) (replacement slot (past_choice m)).after
    (after_all v (replacement slot (past_choice m)).commands) after))

frames_allowed : (n boxes replaced : ℕ) (s : Stage) (w : World) → 1 ≤ boxes → boxes ≤ SLOTS → replaced + n < MOST_GIVES → IsMade boxes replaced s w
    → IsAllowed boxes (replaced + n) w (frames n s)
frames_allowed zero boxes replaced s w some few short h =
    subst (λ k. IsAllowed boxes k w (frames zero s)) {x = replaced} {y = replaced + zero} (omega arith) (record { allowed = tt; made = h })
frames_allowed (suc n) boxes replaced s w some few short h =
    subst (λ k. IsAllowed boxes k w (frames (suc n) s)) {x = replaced + 1 + n} {y = replaced + suc n} (omega arith)
    (then_allowed boxes boxes (replaced + 1) (replaced + 1 + n) w (one_frame s) (frames n)
    (frame_allowed boxes replaced s w some few (omega (arith, short)) h)
    (λ made. frames_allowed n boxes (replaced + 1) (one_frame s).after (after_all w (one_frame s).commands) some few (omega (arith, short)) made))

-- the world once a header was read
abbrev begun : World
begun = after true opening (Header One)

pub scene_allowed : (seed boxes count : ℕ) → 1 ≤ boxes → boxes ≤ SLOTS → count < MOST_GIVES
    → AreAllowed opening (made_scene seed boxes count) × ((after_all opening (made_scene seed boxes count)).version ≡ Some One)
scene_allowed seed boxes count some few short =
    let made : IsMade 0 0 (start seed) begun = record {
      header = refl;
      bodies = refl;
      generations = refl;
      young = λ slot. omega arith;
      table = record { entries = tt; gives = refl };
    } in
    let all : IsAllowed boxes (0 + count) begun (adds boxes (start seed) then frames count) =
    then_allowed boxes boxes 0 (0 + count) begun (adds boxes (start seed)) (frames count)
    (subst (λ k. IsAllowed k 0 begun (adds boxes (start seed))) {x = 0 + boxes} {y = boxes} (omega arith)
    (adds_allowed boxes 0 (start seed) begun (omega (arith, few)) made))
    (λ added. frames_allowed count boxes 0 (adds boxes (start seed)).after (after_all begun (adds boxes (start seed)).commands) some few
    (omega (arith, short)) added) in
    ((refl, all.allowed), all.made.header)
