-- Serves proofs alone: the boxes of all levels in one list, a stretch for each level, and where each slot's box stands.
use Rattle.std.specs.Prelude.{◌≡◌, ◌≢◌, ℕ, zero, suc, ◌+◌, ◌<◌, ◌≤◌, pos, Bool, true, List, ◌++◌, length, slice_index, slice_index_or, Some}
use Rattle.std.specs.Ordering.{nat_cmp}
use Rattle.std.specs.FinMap.{FinMap, get}
use Rattle.fixed_box.specs.Bounds.{Bounds, level_of}
use Rattle.fixed_box.specs.declared.TheConstants.{SLOTS}
use Rattle.broad_index.specs.Members.{has_slot}
use Rattle.cell_table.specs.declared.TheConstants.{LEVELS}

-- Slots and their boxes, at the same places, and for how many more boxes there is room.
pub record Listed : Type 0 where
  pub slots : List ℕ
  pub boxes : List Bounds
  pub spare : ℕ

-- Such lists, where each slot's box stands in them, and from which place on those of each level do: those of the highest level stand first.
pub record Pool : Type 0 where
  pub listed : Listed
  pub places : List ℕ
  pub starts : List ℕ

-- the flat box at the origin, read of no place
abbrev pub blank : Bounds
blank = record { lo = record { x = pos 0; y = pos 0; z = pos 0 }; hi = record { x = pos 0; y = pos 0; z = pos 0 } }

-- from which place on a level's boxes stand
abbrev pub start_of : Pool → ℕ → ℕ
start_of pool level = slice_index pool.starts level

-- before which place they stand: that from which on those of the level below do, or the end
abbrev pub end_of : Pool → ℕ → ℕ
end_of pool zero = length pool.listed.slots
end_of pool (suc level) = start_of pool level

-- a place is in a level's stretch
pub record IsIn (pool : Pool) (level place : ℕ) : Type 0 where
  pub from : start_of pool level ≤ place
  pub below : place < end_of pool level

-- The lists are as long as they must be, there is room for all slots, and one stretch begins where another ends.
pub record AreStretches (pool : Pool) : Type 0 where
  pub even : length pool.listed.slots ≡ length pool.listed.boxes
  pub roomy : SLOTS ≤ length pool.listed.boxes + pool.listed.spare
  pub bound : length pool.listed.slots ≤ SLOTS
  pub places_len : length pool.places ≡ SLOTS
  pub starts_len : length pool.starts ≡ LEVELS
  pub top : start_of pool 10 ≡ 0
  pub falling : (level : ℕ) → level < LEVELS → start_of pool level ≤ end_of pool level

-- a slot's box stands in the stretch of its level
pub record Stands (pool : Pool) (slot : ℕ) (body : Bounds) : Type 0 where
  pub in_level : IsIn pool (level_of body) (slice_index pool.places slot)
  pub slot_is : slice_index pool.listed.slots (slice_index pool.places slot) ≡ slot
  pub body_is : slice_index_or pool.listed.boxes (slice_index pool.places slot) blank ≡ body

-- what stands at a place is the box of its slot, which has this place
pub record IsBoxOf (bodies : FinMap nat_cmp Bounds) (places : List ℕ) (place slot : ℕ) : Type 0 where
  pub body : Bounds
  pub here : get bodies slot ≡ Some body
  pub place_is : slice_index places slot ≡ place

-- each slot is one of those that there may be
abbrev pub AreLow : FinMap nat_cmp Bounds → Type 0
AreLow bodies = (s : ℕ) (b : Bounds) → get bodies s ≡ Some b → s < SLOTS

-- Each box stands in the stretch of its level, and nothing else stands there.
pub record IsLeveled (bodies : FinMap nat_cmp Bounds) (pool : Pool) : Type 0 where
  pub shape : AreStretches pool
  pub low : AreLow bodies
  pub held : (s : ℕ) (b : Bounds) → get bodies s ≡ Some b → Stands pool s b
  pub kept : (place : ℕ) → place < length pool.listed.slots → IsBoxOf bodies pool.places place (slice_index pool.listed.slots place)

-- The same of all slots but one, whose box may be anything: a place of a level's stretch is free for it.
pub record HasHole (bodies : FinMap nat_cmp Bounds) (slot level hole : ℕ) (pool : Pool) : Type 0 where
  pub shape : AreStretches pool
  pub low : AreLow bodies
  pub in_level : IsIn pool level hole
  pub held : (s : ℕ) (b : Bounds) → s ≢ slot → get bodies s ≡ Some b → Stands pool s b × (slice_index pool.places s ≢ hole)
  pub kept : (place : ℕ) → place < length pool.listed.slots → place ≢ hole
      → IsBoxOf bodies pool.places place (slice_index pool.listed.slots place) × (slice_index pool.listed.slots place ≢ slot)

-- What a scan from a place on and below another appends: the slots of the boxes there that pass a test are among it.
pub record HasScanned (listed : Listed) (test : Bounds → Bool) (from to : ℕ) (old new : List ℕ) : Type 0 where
  pub slots : List ℕ
  pub appended : new ≡ old ++ slots
  pub has : (place : ℕ) → from ≤ place → place < to → test (slice_index_or listed.boxes place blank) ≡ true
      → has_slot slots (slice_index listed.slots place) ≡ true
