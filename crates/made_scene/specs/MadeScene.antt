-- A made scene: boxes that are added, then move in each frame, where one of them is replaced and asked about.
use Rattle.std.specs.Prelude.{ℕ, false, zero, suc, ◌+◌, ◌*◌, ◌-◌, ◌/◌, ◌%◌, ◌^◌, ◌==◌, pos, ◌+ℤ◌, ◌-ℤ◌, ℤ, List, []}
use Rattle.std.specs.Prelude.{◌∷◌, ◌++◌, length, slice_index, slice_index_or, slice_set, if◌then◌else◌}
use Rattle.fixed_box.specs.Bounds.{Bounds}
use Rattle.fixed_box.specs.declared.point.Point.{Point}
use Rattle.live_table.specs.declared.group.Group.{Group}
use Rattle.live_table.specs.declared.handle.Handle.{Handle}
use Rattle.live_table.specs.declared.masks.Masks.{Masks}
use Rattle.ray_slabs.specs.Vector.{Vector, widened}
use Rattle.scene_words.specs.declared.command.Command.{Command}
use Rattle.scene_words.specs.declared.command.Command.TheVariants.{Header, Add, Move, Remove, Frame, BoxQ, PointQ, RayQ, SegQ}
use Rattle.scene_words.specs.declared.version.Version.TheVariants.{One}
use Rattle.scene_words.specs.Printed.{scene_text}
use Rattle.rand_pcg.specs.Lcg.{Lcg, next, started, increment_of}
use Rattle.rand_pcg.specs.Pcg.{multiplier_64, output_xsh_rr}

-- the word of 32 bits that a generator gives: it is made of the state before the step
unfoldable pub word : Lcg → ℕ
word g = output_xsh_rr g.state

-- the generator after that word
unfoldable pub later : Lcg → Lcg
later g = next 64 multiplier_64 g

-- What a scene has made so far: the box and the generation of each slot, from 0 on, and the generator of what comes.
pub record Stage : Type 0 where
  pub generator : Lcg
  pub bodies : List Bounds
  pub generations : List ℕ

-- commands, and the stage after them
pub record Part : Type 0 where
  pub commands : List Command
  pub after : Stage

-- a box by four words: its lower corner by three of them, and its sides by the bytes of the last
abbrev pub made_bounds : ℕ → ℕ → ℕ → ℕ → Bounds
made_bounds w1 w2 w3 w4 = record {
  lo = record { x = pos (w1 / 256); y = pos (w2 / 256); z = pos (w3 / 256) };
  hi = record {
    x = pos (w1 / 256 + 65536 + 3072 * (w4 % 256));
    y = pos (w2 / 256 + 65536 + 3072 * (w4 / 256 % 256));
    z = pos (w3 / 256 + 65536 + 3072 * (w4 / 65536 % 256));
  };
}

-- One of four groups, by bits 24 and 25. By bit 26 the box sees the first three of them, or all four.
abbrev pub made_masks : ℕ → Masks
made_masks w4 = record { is = 2 ^ (w4 / 16777216 % 4); sees = if w4 / 67108864 % 2 == 1 then 7 else 15 }

-- the box of the next four words
unfoldable pub next_bounds : Lcg → Bounds
next_bounds g = made_bounds (word g) (word (later g)) (word (later (later g))) (word (later (later (later g))))

unfoldable pub next_masks : Lcg → Masks
next_masks g = made_masks (word (later (later (later g))))

-- the generator after them
unfoldable pub past_box : Lcg → Lcg
past_box g = later (later (later (later g)))

-- how far a byte of a word moves a box, from -32640 to 32640
abbrev pub step : ℕ → ℤ
step byte = pos (256 * byte) -ℤ pos 32640

abbrev pub stepped : ℕ → Point → Point
stepped w p = record { x = p.x +ℤ step (w % 256); y = p.y +ℤ step (w / 256 % 256); z = p.z +ℤ step (w / 65536 % 256) }

-- a box after the step of a word, which moves both corners alike
unfoldable pub moved : ℕ → Bounds → Bounds
moved w b = record { lo = stepped w b.lo; hi = stepped w b.hi }

abbrev pub zero_box : Bounds
zero_box = record { lo = record { x = pos 0; y = pos 0; z = pos 0 }; hi = record { x = pos 0; y = pos 0; z = pos 0 } }

-- the box of a slot
abbrev pub body_at : Stage → ℕ → Bounds
body_at s slot = slice_index_or s.bodies slot zero_box

-- its handle
abbrev pub handle_at : Stage → ℕ → Handle
handle_at s slot = record { slot = slot; generation = slice_index s.generations slot }

abbrev pub before : Command → Part → Part
before command part = record part { commands = command ∷ part.commands }

abbrev pub nothing : Stage → Part
nothing s = record { commands = []; after = s }

infixl 10 ◌then◌
abbrev pub ◌then◌ : Part → (Stage → Part) → Part
part then rest = record { commands = part.commands ++ (rest part.after).commands; after = (rest part.after).after }

-- a box that nobody owns and that isn't fixed, since made scenes are of version 1
abbrev pub nobodys : Group
nobodys = record { owner = 0; fixed = false }

-- The next words are a box, and a line adds it.
abbrev pub add_command : Stage → Command
add_command s = Add (next_bounds s.generator) (next_masks s.generator) nobodys

-- under the next slot
abbrev pub with_new : Stage → Stage
with_new s = record {
  generator = past_box s.generator;
  bodies = s.bodies ++ next_bounds s.generator ∷ [];
  generations = s.generations ++ 0 ∷ [];
}

-- so many boxes
abbrev pub adds : ℕ → Stage → Part
adds zero s = nothing s
adds (suc n) s = before (add_command s) (adds n (with_new s))

-- The next word is a step, and a line moves the box of a slot by it.
abbrev pub move_command : Stage → ℕ → Command
move_command s slot = Move (handle_at s slot) (moved (word s.generator) (body_at s slot))

abbrev pub with_moved : Stage → ℕ → Stage
with_moved s slot = record s { generator = later s.generator; bodies = slice_set s.bodies slot (moved (word s.generator) (body_at s slot)) }

-- the boxes of so many slots, from one on
abbrev pub moves : ℕ → ℕ → Stage → Part
moves zero slot s = nothing s
moves (suc n) slot s = before (move_command s slot) (moves n (slot + 1) (with_moved s slot))

-- The next words are a box, which takes the place of the one in a slot, under its next generation.
abbrev pub with_replaced : Stage → ℕ → Stage
with_replaced s slot = record {
  generator = past_box s.generator;
  bodies = slice_set s.bodies slot (next_bounds s.generator);
  generations = slice_set s.generations slot (slice_index s.generations slot + 1);
}

abbrev pub replacement : ℕ → Stage → Part
replacement slot s = record { commands = Remove (handle_at s slot) ∷ add_command s ∷ []; after = with_replaced s slot }

-- all groups
abbrev pub everyone : ℕ
everyone = 2 ^ 32 - 1

abbrev pub origin : Vector
origin = record { x = pos 0; y = pos 0; z = pos 0 }

-- the lower corner of a slot's box
abbrev pub corner : Stage → ℕ → Point
corner s slot = (body_at s slot).lo

-- the slot after one, and after the last the first
abbrev pub next_slot : Stage → ℕ → ℕ
next_slot s slot = (slot + 1) % length s.bodies

-- The queries at a slot, and the end of the frame.
abbrev pub questions : ℕ → Stage → Part
questions slot s = record {
  commands =
      BoxQ (body_at s slot) everyone
      ∷ PointQ (corner s slot) everyone
      ∷ RayQ (record { from = origin; dir = widened (corner s slot) }) everyone false
      ∷ SegQ (record { a = widened (corner s slot); b = widened (corner s (next_slot s slot)) }) everyone
      ∷ Frame
      ∷ [];
  after = s;
}

-- the slot that a word chooses
abbrev pub chosen : Stage → ℕ
chosen s = word s.generator % length s.bodies

abbrev pub past_choice : Stage → Stage
past_choice s = record s { generator = later s.generator }

-- each box moves, one is replaced, and queries are put there
abbrev pub one_frame : Stage → Part
one_frame s = moves (length s.bodies) 0 s then (λ s. replacement (chosen s) (past_choice s) then questions (chosen s))

-- so many frames
abbrev pub frames : ℕ → Stage → Part
frames zero s = nothing s
frames (suc n) s = one_frame s then frames n

-- nothing made
abbrev pub start : ℕ → Stage
start seed = record { generator = started 64 multiplier_64 seed (increment_of 64 54); bodies = []; generations = [] }

-- The scene of a seed: a header, so many boxes, and so many frames.
abbrev pub made_scene : ℕ → ℕ → ℕ → List Command
made_scene seed boxes count = Header One ∷ (adds boxes (start seed) then frames count).commands

-- its text
abbrev pub made_text : ℕ → ℕ → ℕ → List ℕ
made_text seed boxes count = scene_text (made_scene seed boxes count)
