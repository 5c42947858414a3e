-- Serves proofs alone: trees that come below a node, and how it is rotated where their heights differ by two.
use Rattle.std.specs.Prelude.{ℕ, ◌+◌, ◌≤◌, nat_lt, if◌then◌else◌, IsSome}
use Rattle.slab.specs.Slab.{Slab, get}
use Rattle.tree_nodes.specs.declared.node_view.NodeView.{NodeView}
use Rattle.tree_nodes.specs.Tree.{Tree, tip, fork, height, count_of, Balanced}
use Rattle.tree_nodes.specs.Moved.{refitted}
use Rattle.tree_nodes.specs.Stored.{StandsAt}

abbrev pub lower : Tree → Tree → Tree
lower f g = if nat_lt (height f) (height g) then f else g

abbrev pub higher : Tree → Tree → Tree
higher f g = if nat_lt (height f) (height g) then g else f

-- the upper node stands over the lower node, with two trees, and over a third
abbrev pub rotated : ℕ → ℕ → Tree → Tree → Tree → Tree
rotated upper lower_node low f g = refitted upper (refitted lower_node low f) g

-- the higher child comes up with its higher child, and the node goes down to the two lower trees
abbrev pub rotated_up : ℕ → Tree → Tree → Tree
rotated_up n low (tip m s b) = refitted n low (tip m s b)
rotated_up n low (fork m h k f g) = rotated m n low (lower f g) (higher f g)

-- rotated where the heights differ by more than one
abbrev pub rebalanced : ℕ → Tree → Tree → Tree
rebalanced n l r =
    if nat_lt (height r + 1) (height l)
    then rotated_up n r l
    else (if nat_lt (height l + 1) (height r) then rotated_up n l r else refitted n l r)

-- a height that is so many levels below the greatest that fits a byte
abbrev pub FitsByte : ℕ → ℕ → Type 0
FitsByte h levels = h + levels ≤ 255

-- two trees that may go below a node
pub record Children (slab : Slab NodeView) (at left right : ℕ) (l r : Tree) : Type 0 where
  pub room : IsSome (get slab at)
  pub left_kept : StandsAt slab left l
  pub right_kept : StandsAt slab right r
  pub apart : (k : ℕ) → count_of (refitted at l r) k ≤ 1
  pub left_small : FitsByte (height l) 1
  pub right_small : FitsByte (height r) 1

-- three trees that may go below two nodes
pub record RotationParts (slab : Slab NodeView) (high at low left right : ℕ) (l f g : Tree) : Type 0 where
  pub room : IsSome (get slab high)
  pub below : Children slab at low left l f
  pub right_kept : StandsAt slab right g
  pub apart : (k : ℕ) → count_of (rotated high at l f g) k ≤ 1
  pub left_small : FitsByte (height l) 2
  pub mid_small : FitsByte (height f) 2
  pub right_small : FitsByte (height g) 2

-- two balanced trees that may go below a node, which is then rebalanced
pub record ToRebalance (slab : Slab NodeView) (at left right : ℕ) (l r : Tree) : Type 0 where
  pub parts : Children slab at left right l r
  pub left_balanced : Balanced l
  pub right_balanced : Balanced r
  pub left_low : FitsByte (height l) 2
  pub right_low : FitsByte (height r) 2

-- and whose heights differ by at most two
pub record ToAdjust (slab : Slab NodeView) (at left right : ℕ) (l r : Tree) : Type 0 where
  pub near : ToRebalance slab at left right l r
  pub left_low : height l ≤ height r + 2
  pub right_low : height r ≤ height l + 2

-- a balanced tree whose height is one of two
pub record BalancedNear (t : Tree) (h : ℕ) : Type 0 where
  pub balanced : Balanced t
  pub least : h ≤ height t
  pub most : height t ≤ 1 + h
