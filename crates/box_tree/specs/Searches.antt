-- Serves proofs alone: the searches of touched slots.
use Rattle.std.specs.Prelude.{ℕ, Bool, false, not, ◌==◌, if◌then◌else◌}
use Rattle.std.specs.Prelude.{List, [], map, sum, filter, Option, None, Some, option_map, slice_index_or}
use Rattle.std.specs.List.{filter_map}
use Rattle.fixed_box.specs.Bounds.{Bounds}
use Rattle.broad_index.specs.declared.query.Query.TheVariants.{Region}
use Rattle.broad_index.specs.Found.{found_of}
use Rattle.tree_nodes.specs.Tree.{Tree}
use Rattle.box_tree.specs.Boxes.{visits_for}
use Rattle.tree_search.specs.Looked.{raised}
use Rattle.tree_search.specs.Exact.{exact_in}
use Rattle.tree_search.specs.declared.preorder.ListedNode.{ListedNode}
use Rattle.tree_search.specs.declared.preorder.NodeKind.{NodeKind}
use Rattle.tree_search.specs.declared.preorder.NodeKind.TheVariants.{Leaf as LeafKind, Inner as InnerKind}
use Rattle.slot_lists.specs.SlotMap.{entries_from}

-- the marked ones of slots that have boxes, counted from n
abbrev pub sought_from : List Bool → ℕ → List (Option Bounds) → List ℕ
sought_from marks n bodies = map (λ e. e.0) (filter (λ e. slice_index_or marks e.0 false) (entries_from n bodies))

-- the other slots that a box meets, in the order of the leaves
abbrev pub reached_by : List (Option Bounds) → Option Tree → ℕ → Option Bounds → List ℕ
reached_by bodies tree slot None = []
reached_by bodies tree slot (Some body) = filter (λ s. not (s == slot)) (found_of (exact_in bodies tree) (Region body))

abbrev pub reached_in : List (Option Bounds) → Option Tree → ℕ → List ℕ
reached_in bodies tree slot = reached_by bodies tree slot (slice_index_or bodies slot None)

-- each slot with what it reaches
abbrev pub searches : List (Option Bounds) → Option Tree → List ℕ → List (ℕ × List ℕ)
searches bodies tree slots = map (λ s. (s, reached_in bodies tree s)) slots

-- a number raised by how many nodes descents for the boxes of some slots look at
abbrev pub looked_for : Option Tree → List (Option Bounds) → List ℕ → ℕ → ℕ
looked_for tree bodies slots looked = raised looked (sum (map (λ s. visits_for tree (slice_index_or bodies s None)) slots))

-- a slot with its box, where it has one
abbrev pub with_box : ℕ → Option Bounds → Option (ℕ × Bounds)
with_box slot body = option_map (λ b. (slot, b)) body

-- those of slots that have boxes, each with it
abbrev pub boxed : List (Option Bounds) → List ℕ → List (ℕ × Bounds)
boxed bodies slots = filter_map (λ s. with_box s (slice_index_or bodies s None)) slots

-- a leaf's slot with its box, where it is marked
abbrev pub marked_at : List Bool → Bounds → NodeKind → Option (ℕ × Bounds)
marked_at marks b (LeafKind slot) = if slice_index_or marks slot false then Some (slot, b) else None
marked_at marks b (InnerKind below) = None

abbrev pub marked_leaf : List Bool → ListedNode → Option (ℕ × Bounds)
marked_leaf marks x = marked_at marks x.bounds x.kind
