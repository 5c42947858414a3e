-- What is put, one line or one frame after another.
use Rattle.std.proofs.Common.{◌≡◌, ℕ, zero, suc, ◌+◌, ◌-◌, ◌<◌, ◌≤◌, List, [], ◌∷◌, ◌++◌, length, take, refl, ap, ◌∙◌, sym, arith, length-take}
use Rattle.std.proofs.lemmas.List.{append_assoc, append-nil, take-append-le}
use Rattle.std.proofs.lemmas.Grind.{flat_map-append}
use Rattle.scene_words.specs.declared.command.Command.TheVariants.{Header}
use Rattle.scene_words.specs.declared.version.Version.TheVariants.{One}
use Rattle.scene_words.specs.Printed.{scene_text, line_of}
use Rattle.made_scene.specs.MadeScene.{Stage, start, adds, moves, frames, one_frame, with_new, with_moved, add_command, move_command, made_text}

left_over : (n i : ℕ) → i < n → n - i ≡ suc (n - (i + 1))
left_over n i h = omega (arith, h)

put_on : (o o' line rest : List ℕ) → o' ≡ o ++ line → o' ++ rest ≡ o ++ (line ++ rest)
put_on o o' line rest e = ap (λ t. t ++ rest) e ∙ append_assoc o line rest

-- what begins with a text does so with more behind it
pub kept_on : (n : ℕ) (o a b line : List ℕ) → n ≡ length o → take n a ≡ o → b ≡ a ++ line → take n b ≡ o
kept_on n o a b line e h f =
    let long : n ≤ length a = omega (arith, e, ap length h, length-take n a) in
    ap (take n) f ∙ take-append-le n a line long ∙ h

take_take : (n m : ℕ) (l : List ℕ) → n ≤ m → take n (take m l) ≡ take n l
take_take zero m l h = refl
take_take (suc n) zero l h = absurd (omega (arith, h))
take_take (suc n) (suc m) [] h = refl
take_take (suc n) (suc m) (x ∷ l) h = ap (λ t. x ∷ t) (take_take n m l (omega (arith, h)))

-- and what begins with that does
pub kept_over : (n m : ℕ) (o a b : List ℕ) → n ≡ length o → m ≡ length a → take n a ≡ o → take m b ≡ a → take n b ≡ o
kept_over n m o a b e f h k =
    let long : n ≤ m = omega (arith, e, f, ap length h, length-take n a) in
    let front : take n (take m b) ≡ take n b = take_take n m b long in
    sym front ∙ ap (take n) k ∙ h

pub add_put : (n i : ℕ) (s s' : Stage) (o o' : List ℕ) → i < n → s' ≡ with_new s → o' ≡ o ++ line_of (add_command s)
    → ((adds (n - (i + 1)) s').after ≡ (adds (n - i) s).after)
    × (o' ++ scene_text (adds (n - (i + 1)) s').commands ≡ o ++ scene_text (adds (n - i) s).commands)
add_put n i s s' o o' h e f =
    let turn = ap (λ k. adds k s) (left_over n i h) in
    let rest = scene_text (adds (n - (i + 1)) (with_new s)).commands in (
      ap (λ a. (adds (n - (i + 1)) a).after) e ∙ sym (ap (λ d. d.after) turn),
      ap (λ a. o' ++ scene_text (adds (n - (i + 1)) a).commands) e ∙ put_on o o' (line_of (add_command s)) rest f
          ∙ sym (ap (λ d. o ++ scene_text d.commands) turn),
    )

pub move_put : (n i : ℕ) (s s' : Stage) (o o' : List ℕ) → i < n → s' ≡ with_moved s i → o' ≡ o ++ line_of (move_command s i)
    → ((moves (n - (i + 1)) (i + 1) s').after ≡ (moves (n - i) i s).after)
    × (o' ++ scene_text (moves (n - (i + 1)) (i + 1) s').commands ≡ o ++ scene_text (moves (n - i) i s).commands)
move_put n i s s' o o' h e f =
    let turn = ap (λ k. moves k i s) (left_over n i h) in
    let rest = scene_text (moves (n - (i + 1)) (i + 1) (with_moved s i)).commands in (
      ap (λ a. (moves (n - (i + 1)) (i + 1) a).after) e ∙ sym (ap (λ d. d.after) turn),
      ap (λ a. o' ++ scene_text (moves (n - (i + 1)) (i + 1) a).commands) e ∙ put_on o o' (line_of (move_command s i)) rest f
          ∙ sym (ap (λ d. o ++ scene_text d.commands) turn),
    )

pub frame_put : (n i : ℕ) (s s' : Stage) (o o' : List ℕ) → i < n → s' ≡ (one_frame s).after → o' ≡ o ++ scene_text (one_frame s).commands
    → (o' ++ scene_text (frames (n - (i + 1)) s').commands ≡ o ++ scene_text (frames (n - i) s).commands)
frame_put n i s s' o o' h e f =
    let turn = ap (λ k. frames k s) (left_over n i h) in
    let rest = (frames (n - (i + 1)) (one_frame s).after).commands in
    ap (λ a. o' ++ scene_text (frames (n - (i + 1)) a).commands) e ∙ put_on o o' (scene_text (one_frame s).commands) (scene_text rest) f
    ∙ ap (λ t. o ++ t) (sym (flat_map-append line_of (one_frame s).commands rest)) ∙ sym (ap (λ d. o ++ scene_text d.commands) turn)

-- five texts, one behind another
pub five_put : (o o1 o2 o3 o4 o5 a b c d e : List ℕ) → o1 ≡ o ++ a → o2 ≡ o1 ++ b → o3 ≡ o2 ++ c → o4 ≡ o3 ++ d → o5 ≡ o4 ++ e
    → o5 ≡ o ++ (a ++ (b ++ (c ++ (d ++ (e ++ [])))))
five_put o o1 o2 o3 o4 o5 a b c d e f1 f2 f3 f4 f5 =
    f5 ∙ ap (λ t. t ++ e) (f4 ∙ ap (λ t. t ++ d) (f3 ∙ ap (λ t. t ++ c) (f2 ∙ ap (λ t. t ++ b) f1))) ∙ simp (append_assoc, append-nil)

-- a header, adds and frames
pub scene_put : (seed boxes count : ℕ) (s t : Stage) (o o1 o2 o3 : List ℕ) → s ≡ start seed → t ≡ (adds boxes s).after → o1 ≡ o ++ line_of (Header One)
    → o2 ≡ o1 ++ scene_text (adds boxes s).commands → o3 ≡ o2 ++ scene_text (frames count t).commands → o3 ≡ o ++ made_text seed boxes count
scene_put seed boxes count s t o o1 o2 o3 e f f1 f2 f3 =
    let head = line_of (Header One) in
    let first = (adds boxes (start seed)).commands in
    let rest = (frames count (adds boxes (start seed)).after).commands in
    let end : t ≡ (adds boxes (start seed)).after = f ∙ ap (λ a. (adds boxes a).after) e in
    f3 ∙ ap (λ a. o2 ++ scene_text (frames count a).commands) end
    ∙ ap (λ l. l ++ scene_text rest) (f2 ∙ ap (λ a. o1 ++ scene_text (adds boxes a).commands) e ∙ ap (λ l. l ++ scene_text first) f1)
    ∙ append_assoc (o ++ head) (scene_text first) (scene_text rest) ∙ append_assoc o head (scene_text first ++ scene_text rest)
    ∙ ap (λ l. o ++ (head ++ l)) (sym (flat_map-append line_of first rest))
