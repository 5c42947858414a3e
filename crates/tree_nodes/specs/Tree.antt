-- What a tree of boxes is to a clause, and what calls answer about it.
use Rattle.std.specs.Prelude.{◌≡◌, ◌⊎◌, ℕ, zero, suc, ◌+◌, ◌≤◌, ◌==◌, max, List, [], ◌∷◌, ◌++◌, length, Option, None, Some, IsSome, if◌then◌else◌}
use Rattle.std.specs.List.{sum_by}
use Rattle.fixed_box.specs.declared.TheConstants.{SLOTS}
use Rattle.fixed_box.specs.Bounds.{Bounds, hull, meets}
use Rattle.tree_nodes.specs.declared.TheConstants.{MOST_HEIGHT}
use Rattle.tree_nodes.specs.declared.node_view.NodeView.{NodeView}
use Rattle.tree_nodes.specs.declared.node_view.NodeView.TheVariants as variant

-- a leaf: its node number, and its slot and box
pub record Leaf : Type 0 where
  pub node : ℕ
  pub slot : ℕ
  pub fat : Bounds

-- In a bounding volume tree each inner volume encloses what stands below it (Ericson, Real-Time Collision Detection, 2005, 6.1).
-- Here each node has a number too, and an inner node also its height.
pub data Tree : Type 0 where
  tip : (node slot : ℕ) (fat : Bounds) → Tree
  fork : (node : ℕ) (hull : Bounds) (height : ℕ) (left right : Tree) → Tree

-- the number of the top node
abbrev pub top : Tree → ℕ
top (tip n s b) = n
top (fork n h k l r) = n

-- a leaf's box, or an inner node's hull
abbrev pub bounds : Tree → Bounds
bounds (tip n s b) = b
bounds (fork n h k l r) = h

-- a leaf has height 0
abbrev pub height : Tree → ℕ
height (tip n s b) = 0
height (fork n h k l r) = k

-- the leaves from left to right
abbrev pub leaves : Tree → List Leaf
leaves (tip n s b) = record { node = n; slot = s; fat = b } ∷ []
leaves (fork n h k l r) = leaves l ++ leaves r

-- 1 where the numbers are the same
abbrev pub one : ℕ → ℕ → ℕ
one a b = if a == b then 1 else 0

-- how many nodes have a number
abbrev pub count_of : Tree → ℕ → ℕ
count_of (tip n s b) k = one n k
count_of (fork n h j l r) k = one n k + (count_of l k + count_of r k)

-- An inner node's hull is the union of its children's, and its height is one more than the greater of theirs, which differ by at most one.
pub record IsRefitted (h : Bounds) (k : ℕ) (l r : Tree) : Type 0 where
  pub hull_is : h ≡ hull (bounds l) (bounds r)
  pub height_is : k ≡ 1 + max (height l) (height r)
  pub left_low : height l ≤ height r + 1
  pub right_low : height r ≤ height l + 1

-- each inner node is so
abbrev pub Balanced : Tree → Type 0
Balanced (tip n s b) = Unit {0}
Balanced (fork n h k l r) = IsRefitted h k l r × Balanced l × Balanced r

-- what holds of every tree
pub record IsTree (t : Tree) : Type 0 where
  -- no number occurs twice
  pub apart : (k : ℕ) → count_of t k ≤ 1
  -- no slot occurs twice
  pub slots : (k : ℕ) → sum_by (λ x. one x.slot k) (leaves t) ≤ 1
  pub balanced : Balanced t
  pub few : length (leaves t) ≤ SLOTS
  pub low : height t ≤ MOST_HEIGHT

-- the fewest leaves of a balanced tree of a height
abbrev pub fewest : ℕ → ℕ
fewest zero = 1
fewest (suc zero) = 2
fewest (suc (suc h)) = fewest (suc h) + fewest h

-- how many nodes a descent with a box looks at: it goes on below a hull that meets the box (Ericson, 6.3)
abbrev pub visits : Tree → Bounds → ℕ
visits (tip n s b) q = 1
visits (fork n h k l r) q = 1 + (if meets h q then visits l q + visits r q else 0)

-- what a node of a tree shows
abbrev pub view_of : Tree → NodeView
view_of (tip n s b) = variant.Leaf s b
view_of (fork n h k l r) = variant.Inner (top l) (top r) h k

-- the first of two that is there
abbrev pub or_else : {A : Type 0} → Option A → Option A → Option A
or_else None y = y
or_else (Some x) y = Some x

-- what the node with a number shows
abbrev pub view_at : Tree → ℕ → Option NodeView
view_at (tip n s b) k = if n == k then Some (variant.Leaf s b) else None
view_at (fork n h j l r) k = if n == k then Some (variant.Inner (top l) (top r) h j) else or_else (view_at l k) (view_at r k)

-- u stands in t: it is t, or stands below it
abbrev pub Within : Tree → Tree → Type 0
Within (tip n s b) u = u ≡ tip n s b
Within (fork n h k l r) u = (u ≡ fork n h k l r) ⊎ (Within l u ⊎ Within r u)

-- the same where there may be no tree

abbrev pub leaves_in : Option Tree → List Leaf
leaves_in None = []
leaves_in (Some t) = leaves t

abbrev pub height_in : Option Tree → ℕ
height_in None = 0
height_in (Some t) = height t

abbrev pub view_in : Option Tree → ℕ → Option NodeView
view_in None k = None
view_in (Some t) k = view_at t k

abbrev pub visits_in : Option Tree → Bounds → ℕ
visits_in None q = 0
visits_in (Some t) q = visits t q

abbrev pub IsTreeIn : Option Tree → Type 0
IsTreeIn None = Unit {0}
IsTreeIn (Some t) = IsTree t

-- a leaf has this number
abbrev pub IsLeafOf : Option Tree → ℕ → Type 0
IsLeafOf t node = (s : ℕ) × (b : Bounds) × (view_in t node ≡ Some (variant.Leaf s b))

-- the children that a node shows are nodes of the tree
abbrev pub ChildrenShown : Option Tree → NodeView → Type 0
ChildrenShown t (variant.Leaf slot fat) = Unit {0}
ChildrenShown t (variant.Inner left right hull height) = IsSome (view_in t left) × IsSome (view_in t right)
