-- What a caller's room has after a list was copied into it.
use Rattle.std.specs.Prelude.{◌≡◌, ℕ, ◌-◌, min, List, map, ◌++◌, take, drop, length}
use Rattle.held_world.specs.declared.TheConstants.{OK}
use Rattle.held_world.specs.declared.answers.Reply.{Reply}

-- The first of the items, as many as there is room for, and the rest of the room as it was.
abbrev pub copied : {A B : Type 0} → (A → B) → List A → List B → List B
copied out items room = map out (take (length room) items) ++ drop (length items) room

-- What a call says that copies items from number `from` on.
pub record Copies {A B : Type 0} (shape : A → B) (from : ℕ) (items : List A) (reply : Reply) (room out : List B) : Type 0 where
  pub told : reply ≡ record { status = OK; count = min (length items - from) (length room) }
  pub copied : out ≡ copied shape (drop from items) room
