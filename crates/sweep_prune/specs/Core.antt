-- Definitions: a core, as clauses see it, and slots that come and go.
use Rattle.std.specs.Prelude.{◌≡◌, ℕ, ◌+◌, ◌*◌, ◌/◌, ◌<◌, true, not, ◌==◌, List, [], ◌∷◌, ◌++◌, filter}
use Rattle.endpoint_list.specs.declared.TheConstants.{NODES}
use Rattle.endpoint_list.specs.NodeList.{has, IsDistinct}
use Rattle.sweep_prune.specs.declared.axis.Axis.{Axis}
use Rattle.sweep_prune.specs.declared.lists.Lists.{Lists}
use Rattle.sweep_prune.specs.Places.{on, stands_before}

-- the lists, and the number of exchanges
pub record CoreState : Type 0 where
  pub lists : Lists
  pub exchanged : ℕ

-- What holds of the lists of every core: they hold the same nodes, each once, both nodes of a slot or none, and a slot's minimum
-- node stands before its maximum node.
pub record AreWhole (ls : Lists) : Type 0 where
  pub distinct : (axis : Axis) → IsDistinct (on axis ls)
  pub small : (axis : Axis) (node : ℕ) → has node (on axis ls) ≡ true → node < NODES
  pub same : (axis other : Axis) (node : ℕ) → has node (on axis ls) ≡ has node (on other ls)
  pub paired : (axis : Axis) (slot : ℕ) → has (2 * slot) (on axis ls) ≡ has (2 * slot + 1) (on axis ls)
  pub ordered : (axis : Axis) (slot : ℕ) → has (2 * slot) (on axis ls) ≡ true
      → stands_before (on axis ls) (2 * slot) (2 * slot + 1) ≡ true

-- a slot's minimum and maximum, put last
abbrev pub appended : ℕ → List ℕ → List ℕ
appended slot l = l ++ 2 * slot ∷ (2 * slot + 1) ∷ []

abbrev pub entered : ℕ → Lists → Lists
entered slot ls = record { x = appended slot ls.x; y = appended slot ls.y; z = appended slot ls.z }

-- a list without a slot's nodes
abbrev pub withdrawn : ℕ → List ℕ → List ℕ
withdrawn slot l = filter (λ node. not (node / 2 == slot)) l

abbrev pub left : ℕ → Lists → Lists
left slot ls = record { x = withdrawn slot ls.x; y = withdrawn slot ls.y; z = withdrawn slot ls.z }
