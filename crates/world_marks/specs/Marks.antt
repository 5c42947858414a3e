-- The marks that are held, as clauses see them.
use Rattle.std.specs.Prelude.{◌≡◌, ℕ, true, List, [], ◌∷◌, ◌++◌, Option, None, Some}
use Rattle.live_table.specs.Table.{Table}
use Rattle.pair_events.specs.declared.hpair.HPair.{HPair}
use Rattle.pair_events.specs.PairEvents.{is_in_order}
use Rattle.world_marks.specs.declared.restored.Restored.{Restored}
use Rattle.world_marks.specs.declared.undo.Undo.{Undo}
use Rattle.world_marks.specs.Undone.{undone, AreUndoable}

-- A mark: the frames and exchanges of its world, the pairs of its last frame where another came since, and what undoes each
-- change since, the latest last.
pub record Mark : Type 0 where
  pub frames : ℕ
  pub exchanges : ℕ
  pub kept : Option (List HPair)
  pub undos : List Undo

-- The marks that are held, the newest last, and how many more changes can be noted without memory.
pub record Marked : Type 0 where
  pub marks : List Mark
  pub spare : ℕ

-- a mark of a world as it stands
abbrev pub fresh : ℕ → ℕ → Mark
fresh frames exchanges = record { frames = frames; exchanges = exchanges; kept = None; undos = [] }

-- the newest mark, which is the last, changed
abbrev pub with_newest : (Mark → Mark) → List Mark → List Mark
with_newest change [] = []
with_newest change (m ∷ []) = change m ∷ []
with_newest change (m ∷ n ∷ ms) = m ∷ with_newest change (n ∷ ms)

-- one more change
abbrev pub noted : Undo → Mark → Mark
noted undo m = record m { undos = m.undos ++ undo ∷ [] }

-- these, where there are none
abbrev pub or_kept : Option (List HPair) → List HPair → List HPair
or_kept None last = last
or_kept (Some kept) last = kept

-- the pairs of a last frame, where none are kept
abbrev pub keeping : List HPair → Mark → Mark
keeping last m = record m { kept = Some (or_kept m.kept last) }

-- It is possible to go back to the mark from a table.
pub record IsReturn (m : Mark) (t : Table) : Type 0 where
  pub undoable : AreUndoable m.undos t
  pub ordered : is_in_order (or_kept m.kept []) ≡ true

-- The way back to the mark: its table and its last pairs are there again, and the other marks are left.
pub record IsBack (older : List Mark) (m : Mark) (answer : Option Restored) (marks : List Mark) (t u : Table) (last now : List HPair) : Type 0 where
  pub restored : answer ≡ Some (record { frames = m.frames; exchanges = m.exchanges })
  pub held : marks ≡ older
  pub table : u ≡ undone m.undos t
  pub pairs : now ≡ or_kept m.kept last
