-- What a search reads, as clauses see it.
use Rattle.std.specs.Prelude.{List, Option, refl}
use Rattle.std.specs.Coded.{Coded, code_by, coded×, coded_list, coded_option}
use Rattle.fixed_box.specs.Bounds.{Bounds, coded_bounds}
use Rattle.tree_nodes.specs.Tree.{Tree}
use Rattle.tree_nodes.specs.TreeCode.{coded_tree}

pub record Boxed : Type 0 where
  -- the exact boxes by their slots
  pub bodies : List (Option Bounds)
  -- the tree of their fat boxes
  pub tree : Option Tree

-- stored as the pair of its fields
abbrev pub coded_boxed : Coded Boxed
coded_boxed =
    code_by (List (Option Bounds) × Option Tree) (coded× (coded_list (coded_option coded_bounds)) coded_tree)
    (λ b. (b.bodies, b.tree)) (λ t. record { bodies = t.0; tree = t.1 }) (λ _. refl)
