-- Serves proofs alone: parts of a printed command, as the code puts them one after another.
use Rattle.std.specs.Prelude.{ℕ, ◌==◌, Bool, true, false, List, [], ◌∷◌, ◌++◌, codes, decimal, if◌then◌else◌}
use Rattle.fixed_box.specs.Bounds.{Bounds}
use Rattle.fixed_box.specs.Fix.{show}
use Rattle.live_table.specs.declared.group.Group.{Group}
use Rattle.live_table.specs.declared.masks.Masks.{Masks}
use Rattle.ray_slabs.specs.Vector.{Vector, widened}
use Rattle.scene_words.specs.declared.command.Command.{Command}
use Rattle.scene_words.specs.declared.command.Command.TheVariants.{BoxQ, PointQ, RayQ, SegQ, Cast, Near}
use Rattle.scene_words.specs.Printed.{mask_text}

-- whether a command asks for boxes
abbrev pub asks : Command → Bool
asks (BoxQ body mask) = true
asks (PointQ at mask) = true
asks (RayQ ray mask entry) = true
asks (SegQ seg mask) = true
asks (Cast cast mask) = true
asks (Near at want mask) = true
asks other = false

-- three numbers, each after a space
abbrev pub point_text : Vector → List ℕ
point_text v = 32 ∷ (show v.x ++ (32 ∷ (show v.y ++ (32 ∷ show v.z))))

-- two corners, each number after a space
abbrev pub box_text : Bounds → List ℕ
box_text b = point_text (widened b.lo) ++ point_text (widened b.hi)

-- both masks, each after a space
abbrev pub masks_text : Masks → List ℕ
masks_text masks = 32 ∷ (mask_text masks.is ++ (32 ∷ mask_text masks.sees))

-- a word after its space, where it is asked for
abbrev pub flag_text : Bool → List ℕ → List ℕ
flag_text flagged word = if flagged then word else []

-- whose a box is, where somebody owns it
abbrev pub owner_text : ℕ → List ℕ
owner_text owner = if owner == 0 then [] else codes " owner" ++ 32 ∷ decimal owner

-- that, and whether it is fixed
abbrev pub group_text : Group → List ℕ
group_text group = owner_text group.owner ++ flag_text group.fixed (codes " fixed")
