-- What is printed of a command.
use Rattle.std.specs.Prelude.{◌≡◌, ℕ, true, false, ◌&&◌, ◌||◌, not, ◌<◌, ◌==◌, Bool, if◌then◌else◌, List, [], ◌∷◌, ◌++◌}
use Rattle.std.specs.Prelude.{length, flat_map, codes, decimal}
use Rattle.std.specs.Fmt.{digits}
use Rattle.std.specs.List.{All, join_with_byte}
use Rattle.fixed_box.specs.Bounds.{Bounds}
use Rattle.fixed_box.specs.Fix.{show}
use Rattle.live_table.specs.declared.group.Group.{Group}
use Rattle.live_table.specs.declared.handle.Handle.{Handle}
use Rattle.ray_slabs.specs.Vector.{Vector, widened}
use Rattle.scene_words.specs.declared.command.Command.{Command}
use Rattle.scene_words.specs.declared.command.Command.TheVariants.{Blank, Header, Add, Move, Mask, Remove, Frame, BoxQ, PointQ, RayQ, SegQ, Cast, Near, Mark}
use Rattle.scene_words.specs.declared.command.Command.TheVariants.{Back}
use Rattle.scene_words.specs.SceneWords.{is_blank, is_hash}
use Rattle.scene_words.specs.Verbs.{version_word}

-- A word of a line: some bytes, of which none is a blank or begins a comment.
pub record IsWord (word : List ℕ) : Type 0 where
  pub some : 0 < length word
  pub plain : All (λ b. not (is_blank b || is_hash b) ≡ true) word

-- a slot and a generation, with a colon between them
abbrev pub handle_text : Handle → List ℕ
handle_text handle = decimal handle.slot ++ 58 ∷ decimal handle.generation

-- in hexadecimal, of lower case, without leading zeros
abbrev pub mask_text : ℕ → List ℕ
mask_text mask = digits 16 false mask

-- the three numbers of a point, before further words
abbrev pub point_words : Vector → List (List ℕ) → List (List ℕ)
point_words v more = show v.x ∷ show v.y ∷ show v.z ∷ more

-- the two corners of a box, the lower one first, before further words
abbrev pub box_words : Bounds → List (List ℕ) → List (List ℕ)
box_words b more = point_words (widened b.lo) (point_words (widened b.hi) more)

-- a word, where it is asked for
abbrev pub flag_words : Bool → List ℕ → List (List ℕ)
flag_words flagged word = if flagged then word ∷ [] else []

-- the owner, where there is one, and whether the box is fixed
abbrev pub group_words : Group → List (List ℕ)
group_words g =
    if g.owner == 0 then flag_words g.fixed (codes "fixed")
    else codes "owner" ∷ decimal g.owner ∷ flag_words g.fixed (codes "fixed")

-- The words of a command. No mask is left out.
abbrev pub command_words : Command → List (List ℕ)
command_words Blank = []
command_words (Header version) = codes "scene" ∷ version_word version ∷ []
command_words (Add body masks group) = codes "add" ∷ box_words body (mask_text masks.is ∷ mask_text masks.sees ∷ group_words group)
command_words (Move handle body) = codes "move" ∷ handle_text handle ∷ box_words body []
command_words (Mask handle masks) = codes "mask" ∷ handle_text handle ∷ mask_text masks.is ∷ mask_text masks.sees ∷ []
command_words (Remove handle) = codes "remove" ∷ handle_text handle ∷ []
command_words Frame = codes "frame" ∷ []
command_words (BoxQ body mask) = codes "box" ∷ box_words body (mask_text mask ∷ [])
command_words (PointQ at mask) = codes "point" ∷ point_words (widened at) (mask_text mask ∷ [])
command_words (RayQ ray mask entry) = codes "ray" ∷ point_words ray.from (point_words ray.dir (mask_text mask ∷ flag_words entry (codes "entry")))
command_words (SegQ seg mask) = codes "seg" ∷ point_words seg.a (point_words seg.b (mask_text mask ∷ []))
command_words (Cast cast mask) = codes "cast" ∷ box_words cast.body (point_words (widened cast.by) (mask_text mask ∷ []))
command_words (Near at want mask) = codes "near" ∷ point_words (widened at) (decimal want ∷ mask_text mask ∷ [])
command_words Mark = codes "mark" ∷ []
command_words Back = codes "back" ∷ []

-- Its words, with a space between each two.
abbrev pub printed : Command → List ℕ
printed command = join_with_byte 32 (command_words command)

-- the line that says a command
unfoldable pub line_of : Command → List ℕ
line_of command = printed command ++ 10 ∷ []

-- The scene that commands make: a line for each.
abbrev pub scene_text : List Command → List ℕ
scene_text commands = flat_map line_of commands

-- A command that version 1 has as it is printed: no box is owned or fixed, and no ray lists by entry.
abbrev pub is_of_one : Command → Bool
is_of_one (Add body masks group) = group.owner == 0 && not group.fixed
is_of_one (RayQ ray mask entry) = not entry
is_of_one (Cast cast mask) = false
is_of_one (Near at want mask) = false
is_of_one Mark = false
is_of_one Back = false
is_of_one other = true
