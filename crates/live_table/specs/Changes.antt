-- Changes of a table one after another, and the handles that no live box has again.
use Rattle.std.specs.Prelude.{◌≡◌, ◌<◌, ◌==◌, if◌then◌else◌, List, [], ◌∷◌, None, slice_index}
use Rattle.fixed_box.specs.Bounds.{Bounds}
use Rattle.fixed_box.specs.declared.TheConstants.{SLOTS}
use Rattle.live_table.specs.declared.group.Group.{Group}
use Rattle.live_table.specs.declared.handle.Handle.{Handle}
use Rattle.live_table.specs.declared.masks.Masks.{Masks}
use Rattle.live_table.specs.Entries.{entry_at}
use Rattle.live_table.specs.Table.{Table, least_free, after_give, after_set_box, after_set_masks, after_set_group, after_take}

-- a call that changes a table and undoes nothing
pub data TableChange : Type 0 where
  give : (body : Bounds) (masks : Masks) (group : Group) → TableChange
  set_box : (handle : Handle) (body : Bounds) → TableChange
  set_masks : (handle : Handle) (masks : Masks) → TableChange
  set_group : (handle : Handle) (group : Group) → TableChange
  take : (handle : Handle) → TableChange

-- what the call makes of the table; a give changes nothing where no slot is free
abbrev pub after_change : Table → TableChange → Table
after_change t (give body masks group) = if least_free t == SLOTS then t else after_give t body masks group
after_change t (set_box handle body) = after_set_box t handle body
after_change t (set_masks handle masks) = after_set_masks t handle masks
after_change t (set_group handle group) = after_set_group t handle group
after_change t (take handle) = after_take t handle

-- what several make of it, the first one first
abbrev pub after_changes : Table → List TableChange → Table
after_changes t [] = t
after_changes t (change ∷ later) = after_changes (after_change t change) later

-- The handle was given, and no live box has it.
abbrev pub IsGone : Handle → Table → Type 0
IsGone handle t = (handle.generation < slice_index t.gives handle.slot) × (entry_at handle t.entries ≡ None)
