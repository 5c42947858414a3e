-- Definitions: how many nodes of a tree a query has to look at.
use Rattle.std.specs.Prelude.{ℕ, ◌+◌, Option, None, Some, if◌then◌else◌}
use Rattle.broad_index.specs.declared.query.Query.{Query}
use Rattle.broad_index.specs.Found.{query_meets}
use Rattle.tree_nodes.specs.Tree.{Tree, tip, fork}

-- How many nodes a descent with a query looks at: it goes on below a hull that is met (Ericson, *Real-Time Collision Detection*, 2005, 6.3).
abbrev pub visits_by : Tree → Query → ℕ
visits_by (tip n s b) q = 1
visits_by (fork n h k l r) q = 1 + (if query_meets q h then visits_by l q + visits_by r q else 0)

abbrev pub visits_by_in : Option Tree → Query → ℕ
visits_by_in None q = 0
visits_by_in (Some t) q = visits_by t q
