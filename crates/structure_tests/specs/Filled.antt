-- For tests alone: a tree whose slots are the first ones.
use Rattle.std.specs.Prelude.{◌≡◌, ℕ, ◌<◌, length, Option}
use Rattle.std.specs.List.{All}
use Rattle.tree_nodes.specs.Tree.{Tree, leaves_in}

pub record IsFilled (t : Option Tree) (slots : ℕ) : Type 0 where
  pub count : length (leaves_in t) ≡ slots
  pub below : All (λ x. x.slot < slots) (leaves_in t)
