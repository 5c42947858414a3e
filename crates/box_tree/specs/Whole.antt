-- Serves proofs alone: what ties the kept pairs and the listed nodes to the boxes.
use Rattle.std.specs.Prelude.{◌≡◌, Bool, true, List, Option}
use Rattle.fixed_box.specs.Bounds.{Bounds}
use Rattle.broad_index.specs.declared.pair.Pair.{Pair}
use Rattle.broad_index.specs.Near.{rises}
use Rattle.broad_index.specs.Touched.{AreKept}
use Rattle.slot_lists.specs.SlotMap.{map_of}
use Rattle.tree_search.specs.Preorder.{preorder_in}
use Rattle.box_tree.specs.declared.tree_listing.TreeListing.{TreeListing}
use Rattle.box_tree.specs.Ties.{BoxLists}

-- The kept pairs are those of the map for every pair of which neither slot is marked.
pub record Sound (bodies : List (Option Bounds)) (marks : List Bool) (kept : List Pair) : Type 0 where
  pub kept_rise : rises kept ≡ true
  pub kept_are : AreKept (map_of bodies) marks kept

-- The nodes are listed as they are now, where it is said that they are.
abbrev pub AreListed : TreeListing → BoxLists → Type 0
AreListed listing boxes = listing.fresh ≡ true → listing.nodes.items ≡ preorder_in boxes.bodies boxes.tree

pub record Whole (boxes : BoxLists) (marks : List Bool) (kept : List Pair) (listing : TreeListing) : Type 0 where
  pub sound : Sound boxes.bodies marks kept
  pub listed : AreListed listing boxes
