-- Serves proofs alone: the marks as they are held.
use Rattle.std.specs.Prelude.{◌≡◌, ℕ, ◌-◌, ◌≤◌, List, [], ◌++◌, length, map, Option, None, Some, option_map, vec_len, vec_capacity}
use Rattle.std.specs.Option.{option_to_list}
use Rattle.world_marks.specs.declared.TheConstants.{MOST_MARKS}
use Rattle.world_marks.specs.declared.held.Held.{Held}
use Rattle.world_marks.specs.declared.undo.Undo.{Undo}
use Rattle.world_marks.specs.Marks.{Mark}

-- what is held as a mark
abbrev pub mark_of : Held → Mark
mark_of h = record { frames = h.frames; exchanges = h.exchanges; kept = option_map (λ last. last.items) h.kept; undos = h.undos.items }

-- the older marks, and the newest
abbrev pub marks_of : List Held → Option Held → List Mark
marks_of older newest = map mark_of older ++ map mark_of (option_to_list newest)

-- what the newest has room for; without a mark any number may be noted, since nothing is
abbrev pub spare_of : Option Held → ℕ
spare_of None = 1
spare_of (Some h) = vec_capacity h.undos - vec_len h.undos

-- There is room for all marks, none is newest only where there is none, and what is kept for the next one is empty.
pub record IsHeld (capacity : ℕ) (older : List Held) (newest : Option Held) (idle : List Undo) : Type 0 where
  pub room : MOST_MARKS ≤ capacity
  pub few : length (marks_of older newest) ≤ MOST_MARKS
  pub first : newest ≡ None → older ≡ []
  pub empty : idle ≡ []
