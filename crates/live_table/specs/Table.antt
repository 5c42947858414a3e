-- A table of live boxes, as clauses see it, and what each call makes of it.
use Rattle.std.specs.Prelude.{◌≡◌, ◌≢◌, ◌⊎◌, ℕ, ◌+◌, ◌-◌, ◌<◌, ◌≤◌, IsTrue, None, List, [], length, replicate, slice_index, slice_set}
use Rattle.std.specs.FinMap.{entries as listing}
use Rattle.std.specs.List.{All, Any}
use Rattle.fixed_box.specs.Bounds.{Bounds, meets}
use Rattle.fixed_box.specs.declared.TheConstants.{SLOTS}
use Rattle.live_table.specs.declared.TheConstants.{MOST_GIVES}
use Rattle.live_table.specs.declared.group.Group.{Group}
use Rattle.live_table.specs.declared.handle.Handle.{Handle}
use Rattle.live_table.specs.declared.masks.Masks.{Masks}
use Rattle.live_table.specs.declared.live.Live.{Live}
use Rattle.live_table.specs.Bodies.{slots_with_bodies, bodies_of}
use Rattle.live_table.specs.Entries.{slot_of, live_at, least_from, entered, with_body, with_masks, with_group, without, rises}
use Rattle.fixed_box.specs.Space.{space}

-- The live boxes in order of their slots, and how often each of the `SLOTS` slots was given.
pub record Table : Type 0 where
  pub entries : List Live
  pub gives : List ℕ

-- a table with no live box, whose slots were never given
abbrev pub empty_table : Table
empty_table = record { entries = []; gives = replicate SLOTS 0 }

-- one more give of the slot
abbrev pub raised : List ℕ → ℕ → List ℕ
raised gives slot = slice_set gives slot (slice_index gives slot + 1)

-- one give of the slot fewer
abbrev pub lowered : List ℕ → ℕ → List ℕ
lowered gives slot = slice_set gives slot (slice_index gives slot - 1)

-- the least slot that is free: no entry has it, and it was given fewer than `MOST_GIVES` times; `SLOTS` where there is none
abbrev pub least_free : Table → ℕ
least_free t = least_from 0 t.gives t.entries

-- The slot is free, and each lower one has an entry or was given `MOST_GIVES` times.
pub record IsLeastFree (slot : ℕ) (t : Table) : Type 0 where
  pub free : All (λ entry. slot_of entry ≢ slot) t.entries
  pub few : slice_index t.gives slot < MOST_GIVES
  pub least : (lower : ℕ) → lower < slot → Any (λ entry. slot_of entry ≡ lower) t.entries ⊎ (MOST_GIVES ≤ slice_index t.gives lower)

-- the handle of the next box: the least free slot, and how often that was given
abbrev pub next_handle : Table → Handle
next_handle t = record { slot = least_free t; generation = slice_index t.gives (least_free t) }

-- a new box under the next handle, whose slot was given once more
abbrev pub after_give : Table → Bounds → Masks → Group → Table
after_give t body masks group = record {
  entries = entered (record { handle = next_handle t; body = body; masks = masks; group = group }) t.entries;
  gives = raised t.gives (least_free t);
}

-- the handle's box is another
abbrev pub after_set_box : Table → Handle → Bounds → Table
after_set_box t handle body = record t { entries = with_body handle body t.entries }

-- the handle's box has other masks
abbrev pub after_set_masks : Table → Handle → Masks → Table
after_set_masks t handle masks = record t { entries = with_masks handle masks t.entries }

-- the handle's box has another owner and fixed mark
abbrev pub after_set_group : Table → Handle → Group → Table
after_set_group t handle group = record t { entries = with_group handle group t.entries }

-- the handle's box is gone
abbrev pub after_take : Table → Handle → Table
after_take t handle = record t { entries = without handle t.entries }

-- the handle's box is gone, and its slot was given once less
abbrev pub after_ungive : Table → Handle → Table
after_ungive t handle = record { entries = without handle t.entries; gives = lowered t.gives handle.slot }

-- a box that was taken out is there again
abbrev pub after_put_back : Table → Live → Table
after_put_back t live = record t { entries = entered live t.entries }

-- A box may be put back: no live box has its slot, and that was given once more than the box's generation says.
pub record IsVacated (live : Live) (t : Table) : Type 0 where
  pub free : live_at (slot_of live) t.entries ≡ None
  pub small : slot_of live < SLOTS
  pub given : slice_index t.gives (slot_of live) ≡ live.handle.generation + 1

-- what holds of every table
pub record IsTable (t : Table) : Type 0 where
  -- the slots of the entries rise strictly
  pub rising : IsTrue (rises t.entries)
  pub slots : length t.gives ≡ SLOTS
  pub small : All (λ entry. slot_of entry < SLOTS) t.entries
  pub few : length t.entries ≤ SLOTS
  -- The last give of a slot that wasn't undone made its entry. So its generation is below the number of gives.
  pub newest : All (λ entry. entry.handle.generation + 1 ≡ slice_index t.gives (slot_of entry)) t.entries
  -- the boxes lie in space, which has all 32-bit coordinates
  pub in_space : All (λ entry. IsTrue (meets space entry.body)) t.entries
  -- the map of the boxes has them in the order of their slots
  pub mapped : listing (bodies_of t.entries) ≡ slots_with_bodies t.entries
