-- Serves proofs alone: boxes in skins, which no clause of a public call speaks of.
use Rattle.std.specs.Prelude.{◌≡◌, ℕ, Bool, true, false, List, Option, None, Some, map, slice_index_or}
use Rattle.std.specs.List.{zip}
use Rattle.std.specs.Ordering.{nat_cmp}
use Rattle.std.specs.FinMap.{FinMap, get, contains_key}
use Rattle.fixed_box.specs.Bounds.{Bounds, encloses}
use Rattle.skin_index.specs.declared.marked_skins.MarkedSkins.{MarkedSkins}
use Rattle.broad_index.specs.declared.pair.Pair.{Pair}
use Rattle.slot_lists.specs.Meeting.{slots_meet}
use Rattle.broad_index.specs.Members.{has_slot}
use Rattle.broad_index.specs.Near.{rises}
use Rattle.broad_index.specs.Reach.{reach}
use Rattle.broad_index.specs.Touched.{gathered_with, AreKept}

-- whether a skin is there and encloses a box
abbrev pub is_inside : Option Bounds → Bounds → Bool
is_inside None body = false
is_inside (Some skin) body = encloses skin body

-- whether the boxes of a pair are there and meet
abbrev pub boxes_meet : FinMap nat_cmp Bounds → Pair → Bool
boxes_meet bodies p = slots_meet bodies p.a p.b

-- The same slots have boxes and skins, and each box lies in its skin.
pub record AreSkins (bodies skins : FinMap nat_cmp Bounds) : Type 0 where
  pub same : (k : ℕ) → contains_key skins k ≡ contains_key bodies k
  pub inside : (k : ℕ) (b : Bounds) → get bodies k ≡ Some b → is_inside (get skins k) b ≡ true

-- the pairs of some slots with all that their skins meet
abbrev pub pairs_met : FinMap nat_cmp Bounds → List ℕ → List Pair
pairs_met skins slots = gathered_with (zip slots (map (reach skins) slots))

-- the marked slots are those of a list
abbrev pub AreMarks : List Bool → List ℕ → Type 0
AreMarks marks slots = (k : ℕ) → slice_index_or marks k false ≡ has_slot slots k

-- The marked skins are listed, and the kept pairs are right but for those of marked skins.
pub record ArePairsKept (skins : FinMap nat_cmp Bounds) (marks : List Bool) (slots : List ℕ) (kept : List Pair) : Type 0 where
  pub listed : AreMarks marks slots
  pub rise : rises kept ≡ true
  pub right : AreKept skins marks kept

-- Memory ran out where it did in the index. Else the index has the skins, and their pairs are kept where not all are marked.
pub record IsSkinned (bodies skins : FinMap nat_cmp Bounds) (index_spent spent : Bool) (marked : MarkedSkins) (kept : List Pair) : Type 0 where
  pub same_spent : index_spent ≡ spent
  pub held : spent ≡ false → AreSkins bodies skins
  pub pairs_kept : spent ≡ false → marked.all ≡ false → ArePairsKept skins marked.marks marked.slots.items kept
