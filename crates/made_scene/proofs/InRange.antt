-- The commands of a made scene: each within its range and of version 1, and how many there are.
use Rattle.std.proofs.Common.{true, false, ◌≡◌, ℕ, zero, suc, ◌+◌, ◌*◌, ◌^◌, ◌<◌, ◌≤◌, ◌≤ℤ◌, ℤ, pos, neg_ℤ, []}
use Rattle.std.proofs.Common.{◌∷◌, ◌++◌, length, refl, ap, ◌∙◌, arith, length-append}
use Rattle.std.specs.List.{All}
use Rattle.std.proofs.Math.Nat.{mod-le}
use Rattle.std.proofs.lemmas.Int.{ints}
use Rattle.std.proofs.lemmas.List.Elements.{All-append, All-cons, All-nil}
use Rattle.fixed_box.specs.declared.TheConstants.{SLOTS}
use Rattle.fixed_box.specs.declared.point.Point.{Point}
use Rattle.fixed_box.specs.Bounds.{Bounds}
use Rattle.ray_slabs.specs.Vector.{widened}
use Rattle.scene_words.specs.declared.command.Command.{Command}
use Rattle.scene_words.specs.declared.command.Command.TheVariants.{Header, Remove, Frame, BoxQ, PointQ, RayQ, SegQ}
use Rattle.scene_words.specs.declared.version.Version.TheVariants.{One}
use Rattle.scene_words.specs.Printed.{is_of_one}
use Rattle.scene_words.specs.Ranges.{IsRaw, IsRawVector, IsRawBox, IsInRange}
use Rattle.made_scene.specs.MadeScene.{Stage, start, made_scene, adds, moves, questions, frames, one_frame, add_command, move_command}
use Rattle.made_scene.specs.MadeScene.{with_new, with_moved, with_replaced, past_choice, chosen, next_slot, next_bounds, moved, word}
use Rattle.made_scene.specs.MadeScene.{body_at, handle_at, corner, origin, everyone}
use Rattle.made_scene.specs.Ranges.{IsNear, IsNearPoint, IsAfter, IsMoving}
use Rattle.made_scene.proofs.Corners.{moved_near}
use Rattle.made_scene.proofs.Words.{word_below, next_near, masks_in_range}
use Rattle.made_scene.proofs.Stages.{start_after, adds_after, adds_count, begins_moving, goes_moving, moves_moving, replaced_after, frame_after, frame_count}

part_raw : (times : ℕ) (part : ℤ) → times ≤ 100 → neg_ℤ (pos (32640 * times)) ≤ℤ part → part ≤ℤ pos (17626111 + 32640 * times)
    → IsRaw part
part_raw times part few low high = (omega (arith, ints), omega (arith, ints))

point_raw : (times : ℕ) (p : Point) → times ≤ 100 → IsNearPoint times p → IsRawVector (widened p)
point_raw times p few h = record {
  x = part_raw times p.x few h.x_low h.x_high;
  y = part_raw times p.y few h.y_low h.y_high;
  z = part_raw times p.z few h.z_low h.z_high;
}

box_raw : (times : ℕ) (b : Bounds) → times ≤ 100 → IsNear times b → IsRawBox b
box_raw times b few h = record { lo = point_raw times b.lo few h.lo; hi = point_raw times b.hi few h.hi; ordered = h.ordered }

origin_raw : IsRawVector origin
origin_raw = record {
  x = (omega (arith, ints), omega (arith, ints));
  y = (omega (arith, ints), omega (arith, ints));
  z = (omega (arith, ints), omega (arith, ints));
}

add_in_range : (s : Stage) → IsInRange (add_command s)
add_in_range s = (box_raw 0 (next_bounds s.generator) (omega arith) (next_near s.generator), masks_in_range s.generator, omega arith)

adds_in_range : (n : ℕ) (s : Stage) → All IsInRange (adds n s).commands
adds_in_range zero s = All-nil IsInRange
adds_in_range (suc n) s = All-cons IsInRange (add_command s) (adds n (with_new s)).commands (add_in_range s) (adds_in_range n (with_new s))

move_in_range : (times slot : ℕ) (s : Stage) → times ≤ 99 → slot < SLOTS → IsMoving times slot s → IsInRange (move_command s slot)
move_in_range times slot s few low h =
    let near = moved_near times (word s.generator) (body_at s slot) (h.ahead slot (omega arith)) in (
      record { slot = omega (arith, low); generation = omega (arith, h.young slot, few) },
      box_raw (times + 1) (moved (word s.generator) (body_at s slot)) (omega (arith, few)) near,
    )

moves_in_range : (n slot times : ℕ) (s : Stage) → times ≤ 99 → slot + n ≤ SLOTS → IsMoving times slot s → All IsInRange (moves n slot s).commands
moves_in_range zero slot times s few low h = All-nil IsInRange
moves_in_range (suc n) slot times s few low h =
    All-cons IsInRange (move_command s slot) (moves n (slot + 1) (with_moved s slot)).commands (move_in_range times slot s few (omega (arith, low)) h)
    (moves_in_range n (slot + 1) times (with_moved s slot) few (omega (arith, low)) (goes_moving times slot s h))

remove_in_range : (times slots slot : ℕ) (s : Stage) → times ≤ 99 → slot < 2 ^ 32 → IsMoving times slots s → IsInRange (Remove (handle_at s slot))
remove_in_range times slots slot s few low h = record { slot = low; generation = omega (arith, h.young slot, few) }

abbrev ray_at : Stage → ℕ → Command
ray_at s slot = RayQ (record { from = origin; dir = widened (corner s slot) }) everyone false

abbrev seg_at : Stage → ℕ → Command
seg_at s slot = SegQ (record { a = widened (corner s slot); b = widened (corner s (next_slot s slot)) }) everyone

questions_in_range : (times slot : ℕ) (s : Stage) → times ≤ 100 → IsAfter times s → All IsInRange (questions slot s).commands
questions_in_range times slot s few h =
    let body = box_raw times (body_at s slot) few (h.near slot) in
    let here = point_raw times (corner s slot) few (h.near slot).lo in
    let there = point_raw times (corner s (next_slot s slot)) few (h.near (next_slot s slot)).lo in
    let mask : everyone < 2 ^ 32 = omega arith in
    let end : All IsInRange (Frame ∷ []) = All-cons IsInRange Frame [] tt (All-nil IsInRange) in
    let seg : IsInRange (seg_at s slot) = (here, there, mask) in
    let ray : IsInRange (ray_at s slot) = (origin_raw, here, mask) in
    let point : IsInRange (PointQ (corner s slot) everyone) = (here, mask) in
    let box : IsInRange (BoxQ (body_at s slot) everyone) = (body, mask) in
    All-cons IsInRange _ (PointQ (corner s slot) everyone ∷ ray_at s slot ∷ seg_at s slot ∷ Frame ∷ []) box
    (All-cons IsInRange _ (ray_at s slot ∷ seg_at s slot ∷ Frame ∷ []) point
    (All-cons IsInRange _ (seg_at s slot ∷ Frame ∷ []) ray (All-cons IsInRange _ (Frame ∷ []) seg end)))

frame_in_range : (times : ℕ) (s : Stage) → times ≤ 99 → IsAfter times s → All IsInRange (one_frame s).commands
frame_in_range times s few h =
    let m = (moves (length s.bodies) 0 s).after in
    let slot = chosen m in
    let end = with_replaced (past_choice m) slot in
    let moving : IsMoving times (0 + length s.bodies) m = moves_moving (length s.bodies) 0 times s (begins_moving times s h) in
    let below : slot < 2 ^ 32 = omega (arith, word_below m.generator, mod-le (word m.generator) (length m.bodies)) in
    All-append IsInRange (moves (length s.bodies) 0 s).commands (Remove (handle_at m slot) ∷ add_command (past_choice m) ∷ (questions slot end).commands)
    (moves_in_range (length s.bodies) 0 times s few (omega (arith, h.few)) (begins_moving times s h))
    (All-cons IsInRange (Remove (handle_at m slot)) (add_command (past_choice m) ∷ (questions slot end).commands)
    (remove_in_range times (0 + length s.bodies) slot m few below moving)
    (All-cons IsInRange (add_command (past_choice m)) (questions slot end).commands (add_in_range (past_choice m))
    (questions_in_range (times + 1) slot end (omega (arith, few)) (replaced_after times (0 + length s.bodies) slot m moving))))

frames_in_range : (n times : ℕ) (s : Stage) → times + n ≤ 100 → IsAfter times s → All IsInRange (frames n s).commands
frames_in_range zero times s few h = All-nil IsInRange
frames_in_range (suc n) times s few h =
    All-append IsInRange (one_frame s).commands (frames n (one_frame s).after).commands (frame_in_range times s (omega (arith, few)) h)
    (frames_in_range n (times + 1) (one_frame s).after (omega (arith, few)) (frame_after times s h))

pub scene_in_range : (seed boxes count : ℕ) → boxes ≤ SLOTS → count ≤ 100 → All IsInRange (made_scene seed boxes count)
scene_in_range seed boxes count few short =
    let s = (adds boxes (start seed)).after in
    All-cons IsInRange (Header One) ((adds boxes (start seed)).commands ++ (frames count s).commands) tt
    (All-append IsInRange (adds boxes (start seed)).commands (frames count s).commands (adds_in_range boxes (start seed))
    (frames_in_range count 0 s (omega (arith, short)) (adds_after boxes (start seed) (omega (arith, few)) (start_after seed))))

-- each is one that version 1 has
abbrev IsOfOne : Command → Type 0
IsOfOne c = is_of_one c ≡ true

adds_of_one : (n : ℕ) (s : Stage) → All IsOfOne (adds n s).commands
adds_of_one zero s = All-nil IsOfOne
adds_of_one (suc n) s = All-cons IsOfOne (add_command s) (adds n (with_new s)).commands refl (adds_of_one n (with_new s))

moves_of_one : (n slot : ℕ) (s : Stage) → All IsOfOne (moves n slot s).commands
moves_of_one zero slot s = All-nil IsOfOne
moves_of_one (suc n) slot s =
    All-cons IsOfOne (move_command s slot) (moves n (slot + 1) (with_moved s slot)).commands refl (moves_of_one n (slot + 1) (with_moved s slot))

questions_of_one : (slot : ℕ) (s : Stage) → All IsOfOne (questions slot s).commands
questions_of_one slot s =
    All-cons IsOfOne (BoxQ (body_at s slot) everyone) (PointQ (corner s slot) everyone ∷ ray_at s slot ∷ seg_at s slot ∷ Frame ∷ []) refl
    (All-cons IsOfOne (PointQ (corner s slot) everyone) (ray_at s slot ∷ seg_at s slot ∷ Frame ∷ []) refl
    (All-cons IsOfOne (ray_at s slot) (seg_at s slot ∷ Frame ∷ []) refl
    (All-cons IsOfOne (seg_at s slot) (Frame ∷ []) refl (All-cons IsOfOne Frame [] refl (All-nil IsOfOne)))))

frame_of_one : (s : Stage) → All IsOfOne (one_frame s).commands
frame_of_one s =
    let m = (moves (length s.bodies) 0 s).after in
    let slot = chosen m in
    let end = with_replaced (past_choice m) slot in
    All-append IsOfOne (moves (length s.bodies) 0 s).commands (Remove (handle_at m slot) ∷ add_command (past_choice m) ∷ (questions slot end).commands)
    (moves_of_one (length s.bodies) 0 s)
    (All-cons IsOfOne (Remove (handle_at m slot)) (add_command (past_choice m) ∷ (questions slot end).commands) refl
    (All-cons IsOfOne (add_command (past_choice m)) (questions slot end).commands refl (questions_of_one slot end)))

frames_of_one : (n : ℕ) (s : Stage) → All IsOfOne (frames n s).commands
frames_of_one zero s = All-nil IsOfOne
frames_of_one (suc n) s =
    All-append IsOfOne (one_frame s).commands (frames n (one_frame s).after).commands (frame_of_one s) (frames_of_one n (one_frame s).after)

pub scene_of_one : (seed boxes count : ℕ) → All IsOfOne (made_scene seed boxes count)
scene_of_one seed boxes count =
    let s = (adds boxes (start seed)).after in
    All-cons IsOfOne (Header One) ((adds boxes (start seed)).commands ++ (frames count s).commands) refl
    (All-append IsOfOne (adds boxes (start seed)).commands (frames count s).commands (adds_of_one boxes (start seed)) (frames_of_one count s))

adds_length : (n : ℕ) (s : Stage) → length (adds n s).commands ≡ n
adds_length zero s = refl
adds_length (suc n) s = ap suc (adds_length n (with_new s))

moves_length : (n slot : ℕ) (s : Stage) → length (moves n slot s).commands ≡ n
moves_length zero slot s = refl
moves_length (suc n) slot s = ap suc (moves_length n (slot + 1) (with_moved s slot))

frame_length : (s : Stage) → length (one_frame s).commands ≡ length s.bodies + 7
frame_length s =
    let m = (moves (length s.bodies) 0 s).after in
    let slot = chosen m in
    let end = with_replaced (past_choice m) slot in
    length-append (moves (length s.bodies) 0 s).commands (Remove (handle_at m slot) ∷ add_command (past_choice m) ∷ (questions slot end).commands)
    ∙ omega (arith, moves_length (length s.bodies) 0 s)

one_more : (n k : ℕ) → k + n * k ≡ suc n * k
one_more n k = omega arith

frames_length : (n : ℕ) (s : Stage) → length (frames n s).commands ≡ n * (length s.bodies + 7)
frames_length zero s = omega arith
frames_length (suc n) s =
    let rest : length (frames n (one_frame s).after).commands ≡ n * (length s.bodies + 7) =
    frames_length n (one_frame s).after ∙ ap (λ k. n * (k + 7)) (frame_count s) in
    length-append (one_frame s).commands (frames n (one_frame s).after).commands
    ∙ ap (λ k. k + length (frames n (one_frame s).after).commands) (frame_length s)
    ∙ ap (λ k. length s.bodies + 7 + k) rest ∙ one_more n (length s.bodies + 7)

pub scene_length : (seed boxes count : ℕ) → length (made_scene seed boxes count) ≡ 1 + boxes + count * (boxes + 7)
scene_length seed boxes count =
    let s = (adds boxes (start seed)).after in
    let all : length s.bodies ≡ boxes = adds_count boxes (start seed) ∙ omega arith in
    let rest : length (frames count s).commands ≡ count * (boxes + 7) = frames_length count s ∙ ap (λ k. count * (k + 7)) all in
    ap suc (length-append (adds boxes (start seed)).commands (frames count s).commands) ∙ omega (arith, adds_length boxes (start seed), rest)
