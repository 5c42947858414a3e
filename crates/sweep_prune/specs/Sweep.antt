-- Serves proofs alone: what a sweep keeps beside a map of boxes, and how a change of one box changes it.
use Rattle.std.specs.Prelude.{◌≡◌, ℕ, ◌+◌, ◌*◌, ◌≤◌, ℤ, int_le, true, List, length, slice_index, count_by, Some}
use Rattle.std.specs.Ordering.{nat_cmp}
use Rattle.std.specs.FinMap.{FinMap, entries, get, contains_key, insert}
use Rattle.fixed_box.specs.Bounds.{Bounds}
use Rattle.fixed_box.specs.declared.point.Point.{Point}
use Rattle.sweep_prune.specs.declared.lists.Lists.{Lists}
use Rattle.broad_index.specs.Exchanges.{key_lt, min_key, max_key, keys, others, is_between, passed_between, passed_by_add}
use Rattle.sweep_prune.specs.declared.axis.Axis.TheVariants.{X, Y, Z}
use Rattle.endpoint_list.specs.declared.TheConstants.{NODES}
use Rattle.endpoint_list.specs.NodeList.{has}
use Rattle.sweep_prune.specs.Core.{CoreState}
use Rattle.sweep_prune.specs.Walks.{Rising}
use Rattle.sweep_prune.specs.Endpoints.{HasKeys}
use Rattle.sweep_prune.specs.Keyed.{coord}

-- On an axis the list has the nodes of the map's slots, each node has the key of the slot's box, and the list rises by keys.
pub record AxisKeeps (bodies : FinMap nat_cmp Bounds) (f : Point → ℤ) (ks l : List ℕ) : Type 0 where
  pub len : length ks ≡ NODES
  pub short : length l ≤ NODES
  pub rising : Rising (λ n. slice_index ks n) l
  pub min_in : (s : ℕ) → has (2 * s) l ≡ contains_key bodies s
  pub max_in : (s : ℕ) → has (2 * s + 1) l ≡ contains_key bodies s
  pub keyed : (s : ℕ) (b : Bounds) → get bodies s ≡ Some b → HasKeys (λ n. slice_index ks n) f s b
  pub ordered : (s : ℕ) (b : Bounds) → get bodies s ≡ Some b → int_le (f b.lo) (f b.hi) ≡ true

-- the endpoints of other boxes that a move passes on an axis
abbrev pub passed_on : (Point → ℤ) → List (ℕ × Bounds) → ℕ → Bounds → Bounds → ℕ
passed_on f es slot old new =
    count_by (is_between (min_key f slot old) (min_key f slot new)) (keys f (others slot es))
    + count_by (is_between (max_key f slot old) (max_key f slot new)) (keys f (others slot es))

-- a moved slot, on an axis
pub record AxisMoved (bodies : FinMap nat_cmp Bounds) (slot : ℕ) (old new : Bounds) (f : Point → ℤ) (ks l : List ℕ) (steps : ℕ) : Type 0 where
  pub keeps : AxisKeeps (insert bodies slot new) f ks l
  pub steps_are : steps ≡ passed_on f (entries bodies) slot old new

-- the endpoints of other boxes that an added one passes on an axis
abbrev pub passed_down_on : (Point → ℤ) → List (ℕ × Bounds) → ℕ → Bounds → ℕ
passed_down_on f es slot new =
    count_by (key_lt (min_key f slot new)) (keys f (others slot es))
    + count_by (key_lt (max_key f slot new)) (keys f (others slot es))

-- an added slot, on an axis
pub record AxisAdded (bodies : FinMap nat_cmp Bounds) (slot : ℕ) (new : Bounds) (f : Point → ℤ) (ks l : List ℕ) (steps : ℕ) : Type 0 where
  pub keeps : AxisKeeps (insert bodies slot new) f ks l
  pub steps_are : steps ≡ passed_down_on f (entries bodies) slot new

-- on all axes
pub record SweepKeeps (bodies : FinMap nat_cmp Bounds) (x y z : List ℕ) (ls : Lists) : Type 0 where
  pub on_x : AxisKeeps bodies (coord X) x ls.x
  pub on_y : AxisKeeps bodies (coord Y) y ls.y
  pub on_z : AxisKeeps bodies (coord Z) z ls.z

pub record SweepAdded (bodies : FinMap nat_cmp Bounds) (slot : ℕ) (new : Bounds) (x y z : List ℕ) (was now : CoreState) : Type 0 where
  pub keeps : SweepKeeps (insert bodies slot new) x y z now.lists
  pub counted : now.exchanged ≡ was.exchanged + passed_by_add bodies slot new

pub record SweepMoved (bodies : FinMap nat_cmp Bounds) (slot : ℕ) (old new : Bounds) (x y z : List ℕ) (was now : CoreState) : Type 0 where
  pub keeps : SweepKeeps (insert bodies slot new) x y z now.lists
  pub counted : now.exchanged ≡ was.exchanged + passed_between (entries bodies) slot old new
