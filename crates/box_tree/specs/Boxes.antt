-- Definitions: a tree of fat boxes, as clauses see it.
use Rattle.std.specs.Prelude.{◌≡◌, ◌&&◌, ◌||◌, ℕ, Bool, false, if◌then◌else◌}
use Rattle.std.specs.Prelude.{List, map, filter, sum, replicate, slice_index_or, Option, None, Some, refl}
use Rattle.std.specs.Ordering.{nat_cmp}
use Rattle.std.specs.FinMap.{FinMap, code, entries, empty, get, insert}
use Rattle.std.specs.Coded.{Coded, code_by, coded×, coded_ℕ, coded_bool, coded_list}
use Rattle.fixed_box.specs.declared.TheConstants.{SLOTS}
use Rattle.fixed_box.specs.Bounds.{Bounds, coded_bounds, encloses, fattened}
use Rattle.broad_index.specs.declared.pair.Pair.{Pair}
use Rattle.broad_index.specs.Members.{has_pair, has_slot, is_near}
use Rattle.tree_nodes.specs.Tree.{Tree, Leaf, leaves_in, visits_in}
use Rattle.tree_nodes.specs.TreeCode.{coded_tree}
use Rattle.tree_search.specs.Looked.{raised}
use Rattle.box_tree.specs.declared.TheConstants.{MARGIN}
use Rattle.box_tree.specs.declared.moved.Moved.{Moved}
use Rattle.box_tree.specs.declared.moved.Moved.TheVariants.{Inside, Relinked}

pub record Boxes : Type 0 where
  -- the present slots, each with its box
  pub bodies : FinMap nat_cmp Bounds
  -- and each with its fat box
  pub fats : FinMap nat_cmp Bounds
  -- the balanced tree over the fat boxes
  pub tree : Option Tree
  -- for each of the slots from 0 on whether it was touched since the pairs were asked for last
  pub touched : List Bool
  -- how many nodes searches for pairs have looked at
  pub looked : ℕ

abbrev pub coded_boxes : Coded Boxes
coded_boxes =
    code_by (FinMap nat_cmp Bounds × (FinMap nat_cmp Bounds × (Option Tree × (List Bool × ℕ))))
    (coded× (code coded_ℕ coded_bounds) (coded× (code coded_ℕ coded_bounds) (coded× coded_tree (coded× (coded_list coded_bool) coded_ℕ))))
    (λ b. (b.bodies, (b.fats, (b.tree, (b.touched, b.looked)))))
    (λ t. record { bodies = t.0; fats = t.1.0; tree = t.1.1.0; touched = t.1.1.1.0; looked = t.1.1.1.1 }) (λ _. refl)

-- no slot is touched
abbrev pub untouched : List Bool
untouched = replicate SLOTS false

-- at the outset
abbrev pub no_boxes : Boxes
no_boxes = record { bodies = empty; fats = empty; tree = None; touched = untouched; looked = 0 }

-- whether a fat box is there and encloses a box
abbrev pub is_inside : Option Bounds → Bounds → Bool
is_inside None body = false
is_inside (Some fat) body = encloses fat body

-- A fat box stays as long as its box moves inside it. Else there is another, with the margin around the new box.
abbrev pub shifted : FinMap nat_cmp Bounds → ℕ → Bounds → FinMap nat_cmp Bounds
shifted fats slot body = if is_inside (get fats slot) body then fats else insert fats slot (fattened body MARGIN)

-- and what a call tells of it
abbrev pub told : FinMap nat_cmp Bounds → ℕ → Bounds → Moved
told fats slot body = if is_inside (get fats slot) body then Inside else Relinked

-- a leaf's slot with its box
abbrev pub fat_entry : Leaf → ℕ × Bounds
fat_entry x = (x.slot, x.fat)

-- how many nodes a descent with a box looks at, where there is one
abbrev pub visits_for : Option Tree → Option Bounds → ℕ
visits_for tree None = 0
visits_for tree (Some body) = visits_in tree body

-- what the search of a slot costs
abbrev pub cost : Boxes → ℕ → ℕ
cost b slot = visits_for b.tree (get b.bodies slot)

-- the touched slots that are present, rising
abbrev pub sought : Boxes → List ℕ
sought b = map (λ e. e.0) (filter (λ e. slice_index_or b.touched e.0 false) (entries b.bodies))

-- the touched ones among the slots of leaves, in the order of these
abbrev pub marked_slots : List Bool → List Leaf → List ℕ
marked_slots marks xs = filter (λ s. slice_index_or marks s false) (map (λ x. x.slot) xs)

-- The slots that several threads seek, in the order of their leaves, so that those of a piece lie near one another.
abbrev pub shared_slots : Boxes → List ℕ
shared_slots b = marked_slots b.touched (leaves_in b.tree)

-- Once the pairs were asked for, no slot is touched, and one descent for each of those that were is counted. The tree stays.
abbrev pub searched : Boxes → Boxes
searched b = record {
  bodies = b.bodies;
  fats = b.fats;
  tree = b.tree;
  touched = untouched;
  looked = raised b.looked (sum (map (cost b) (sought b)));
}

-- What a search of some slots gives: the pairs of boxes that meet and have one of them, in any order, and what these cost.
pub record Finds (b : Boxes) (slots : List ℕ) (pairs : List Pair) (number : ℕ) : Type 0 where
  pub pairs_are : (p : Pair) → has_pair pairs p ≡ (is_near b.bodies p && (has_slot slots p.a || has_slot slots p.b))
  pub number_is : number ≡ raised 0 (sum (map (cost b) slots))
