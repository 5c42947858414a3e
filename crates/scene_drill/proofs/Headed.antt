-- The version of a made scene is that of its header: no later command of it names one.
use Rattle.std.proofs.Common.{◌≡◌, ℕ, zero, suc, ◌+◌, length, true, Some, refl, ap, ◌∙◌}
use Rattle.scene_words.specs.declared.command.Command.{Command}
use Rattle.scene_words.specs.declared.command.Command.TheVariants.{Header}
use Rattle.scene_words.specs.declared.version.Version.TheVariants.{One}
use Rattle.play_rules.specs.AllowedScene.{after_all}
use Rattle.play_rules.specs.World.{World, opening, after}
use Rattle.made_scene.specs.MadeScene.{Stage, Part, ◌then◌, adds, moves, replacement, questions, one_frame, frames, start, made_scene}
use Rattle.made_scene.specs.MadeScene.{with_new, with_moved, add_command, move_command, chosen, past_choice}
use Rattle.scene_drill.proofs.Parts.{after_both}

-- a part after which the world has the version that it had
abbrev Keeps : World → Part → Type 0
Keeps w part = (after_all w part.commands).version ≡ w.version

both_keep : (w : World) (part : Part) (rest : Stage → Part) → Keeps w part → Keeps (after_all w part.commands) (rest part.after)
    → Keeps w (part then rest)
both_keep w part rest first later = ap (λ v. v.version) (after_both w part.commands (rest part.after).commands) ∙ later ∙ first

adds_keep : (n : ℕ) (s : Stage) (w : World) → Keeps w (adds n s)
adds_keep zero s w = refl
adds_keep (suc n) s w = adds_keep n (with_new s) (after true w (add_command s))

moves_keep : (n slot : ℕ) (s : Stage) (w : World) → Keeps w (moves n slot s)
moves_keep zero slot s w = refl
moves_keep (suc n) slot s w = moves_keep n (slot + 1) (with_moved s slot) (after true w (move_command s slot))

frame_keeps : (s : Stage) (w : World) → Keeps w (one_frame s)
frame_keeps s w =
    let first = moves (length s.bodies) 0 s in
    let slot = chosen first.after in
    let v = after_all w first.commands in
    both_keep w first (λ m. replacement (chosen m) (past_choice m) then questions (chosen m)) (moves_keep (length s.bodies) 0 s w)
    (both_keep v (replacement slot (past_choice first.after)) (questions slot) refl refl)

frames_keep : (n : ℕ) (s : Stage) (w : World) → Keeps w (frames n s)
frames_keep zero s w = refl
frames_keep (suc n) s w =
    both_keep w (one_frame s) (frames n) (frame_keeps s w) (frames_keep n (one_frame s).after (after_all w (one_frame s).commands))

pub headed : (seed boxes count : ℕ) → (after_all opening (made_scene seed boxes count)).version ≡ Some One
headed seed boxes count =
    let begun = after true opening (Header One) in
    let crowd = adds boxes (start seed) in
    both_keep begun crowd (frames count) (adds_keep boxes (start seed) begun) (frames_keep count crowd.after (after_all begun crowd.commands))
