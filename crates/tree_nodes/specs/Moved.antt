-- A tree in which one leaf has another box.
use Rattle.std.specs.Prelude.{ℕ, ◌+◌, ◌==◌, max, if◌then◌else◌}
use Rattle.fixed_box.specs.Bounds.{Bounds, hull}
use Rattle.tree_nodes.specs.Tree.{Tree, Leaf, tip, fork, bounds, height}

-- two trees below a node, with the hull and the height that they give it
abbrev pub refitted : ℕ → Tree → Tree → Tree
refitted n l r = fork n (hull (bounds l) (bounds r)) (1 + max (height l) (height r)) l r

-- the same nodes in the same places, with another box at the leaf with the number, and each inner node refitted
abbrev pub with_fat : ℕ → Bounds → Tree → Tree
with_fat node fat (tip n s b) = tip n s (if n == node then fat else b)
with_fat node fat (fork n h k l r) = refitted n (with_fat node fat l) (with_fat node fat r)

-- a leaf, with another box where it has the number
abbrev pub leaf_moved : ℕ → Bounds → Leaf → Leaf
leaf_moved node fat x = record { node = x.node; slot = x.slot; fat = if x.node == node then fat else x.fat }
