-- Serves proofs alone: what ties the boxes, their fat boxes and the tree to one another.
use Rattle.std.specs.Prelude.{◌≡◌, ◌<◌, ◌==◌, if◌then◌else◌, ℕ, List, [], ◌∷◌, length, map, count_by, slice_index_or, Option, None, Some, is_some, IsTrue, Contains, refl}
use Rattle.std.specs.List.{range_with_len}
use Rattle.std.specs.Coded.{Coded, code_by, coded×, coded_list, coded_option}
use Rattle.fixed_box.specs.declared.TheConstants.{SLOTS}
use Rattle.fixed_box.specs.Bounds.{Bounds, coded_bounds, encloses}
use Rattle.tree_nodes.specs.Tree.{Tree, Leaf, leaves_in, IsTreeIn}
use Rattle.tree_nodes.specs.TreeCode.{coded_tree}

-- fat boxes by their slots, and the tree of their leaves
pub record LeafLists : Type 0 where
  pub fats : List (Option Bounds)
  pub tree : Option Tree

abbrev pub coded_leaf_lists : Coded LeafLists
coded_leaf_lists =
    code_by (List (Option Bounds) × Option Tree) (coded× (coded_list (coded_option coded_bounds)) coded_tree)
    (λ l. (l.fats, l.tree)) (λ t. record { fats = t.0; tree = t.1 }) (λ _. refl)

-- and with them the boxes by their slots
pub record BoxLists : Type 0 where
  pub bodies : List (Option Bounds)
  pub fats : List (Option Bounds)
  pub tree : Option Tree

abbrev pub coded_box_lists : Coded BoxLists
coded_box_lists =
    code_by (List (Option Bounds) × (List (Option Bounds) × Option Tree))
    (coded× (coded_list (coded_option coded_bounds)) (coded× (coded_list (coded_option coded_bounds)) coded_tree))
    (λ b. (b.bodies, (b.fats, b.tree))) (λ t. record { bodies = t.0; fats = t.1.0; tree = t.1.1 }) (λ _. refl)

-- the fat box of a slot among leaves, if one has it
abbrev pub fat_under : List Leaf → ℕ → Option Bounds
fat_under [] k = None
fat_under (x ∷ xs) k = if x.slot == k then Some x.fat else fat_under xs k

-- the fat boxes of leaves by their slots
unfoldable pub fats_by : List Leaf → List (Option Bounds)
fats_by xs = map (λ k. fat_under xs k) (range_with_len 0 SLOTS)

-- The leaves of the tree are the slots with fat boxes.
pub record Leafed (tree : Option Tree) (fats : List (Option Bounds)) : Type 0 where
  pub is_tree : IsTreeIn tree
  pub fats_len : length fats ≡ SLOTS
  pub counted : length (leaves_in tree) ≡ count_by is_some fats
  pub fat_is : (x : Leaf) → Contains (leaves_in tree) x → slice_index_or fats x.slot None ≡ Some x.fat
  pub whole : (k : ℕ) (f : Bounds) → slice_index_or fats k None ≡ Some f
      → (n : ℕ) × Contains (leaves_in tree) (record { node = n; slot = k; fat = f })

-- Each leaf stands under the number that is noted for its slot.
pub record Ties (tree : Option Tree) (numbers : List ℕ) : Type 0 where
  pub is_tree : IsTreeIn tree
  pub numbers_len : length numbers ≡ SLOTS
  pub small : (x : Leaf) → Contains (leaves_in tree) x → x.slot < SLOTS
  pub number_is : (x : Leaf) → Contains (leaves_in tree) x → slice_index_or numbers x.slot 0 ≡ x.node

-- The slots with fat boxes are those with boxes, and the fat boxes enclose these.
pub record AreFat (fats bodies : List (Option Bounds)) : Type 0 where
  pub same : (k : ℕ) → is_some (slice_index_or fats k None) ≡ is_some (slice_index_or bodies k None)
  pub inside : (k : ℕ) (f b : Bounds) → slice_index_or fats k None ≡ Some f → slice_index_or bodies k None ≡ Some b → IsTrue (encloses f b)

-- Each box has a leaf, and lies in its fat box.
pub record HaveLeaves (tree : Option Tree) (bodies fats : List (Option Bounds)) : Type 0 where
  pub bodies_len : length bodies ≡ SLOTS
  pub leafed : Leafed tree fats
  pub fat : AreFat fats bodies
