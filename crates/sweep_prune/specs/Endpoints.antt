-- Serves proofs alone: the nodes of entries, and their keys as numbers.
use Rattle.std.specs.Prelude.{◌≡◌, ◌≢◌, ℕ, ◌+◌, ◌*◌, ◌<◌, ℤ, int_le, Bool, true, List, [], ◌∷◌, flat_map}
use Rattle.fixed_box.specs.declared.TheConstants.{SLOTS}
use Rattle.fixed_box.specs.Bounds.{Bounds}
use Rattle.fixed_box.specs.declared.point.Point.{Point}
use Rattle.broad_index.specs.Exchanges.{Key, min_key, max_key}
use Rattle.sweep_prune.specs.Walks.{lies_between}
use Rattle.sweep_prune.specs.KeyNumbers.{number, IsInRange, IsSmallKey}

abbrev pub nodes : List (ℕ × Bounds) → List ℕ
nodes es = flat_map (λ e. 2 * e.0 ∷ (2 * e.0 + 1) ∷ []) es

-- a test of keys tells of each other entry's nodes whether their numbers lie between two
abbrev pub Agree : ℕ → ℕ → (ℕ → ℕ) → ℕ → (Point → ℤ) → (Key → Bool) → List (ℕ × Bounds) → Type 0
Agree u v k slot f t [] = Unit {0}
Agree u v k slot f t (e ∷ es) =
    (e.0 ≢ slot → (lies_between u v (k (2 * e.0)) ≡ t (min_key f e.0 e.1)) × (lies_between u v (k (2 * e.0 + 1)) ≡ t (max_key f e.0 e.1)))
    × Agree u v k slot f t es

-- a slot's two nodes have the numbers of its box's keys on an axis
pub record HasKeys (k : ℕ → ℕ) (f : Point → ℤ) (slot : ℕ) (b : Bounds) : Type 0 where
  pub min_is : k (2 * slot) ≡ number (min_key f slot b)
  pub max_is : k (2 * slot + 1) ≡ number (max_key f slot b)
  pub min_small : IsSmallKey (min_key f slot b)
  pub max_small : IsSmallKey (max_key f slot b)

abbrev pub AllHaveKeys : (ℕ → ℕ) → (Point → ℤ) → List (ℕ × Bounds) → Type 0
AllHaveKeys k f [] = Unit {0}
AllHaveKeys k f (e ∷ es) = HasKeys k f e.0 e.1 × AllHaveKeys k f es

-- two numbers are those of the keys that a box gives a slot on an axis
pub record NewKeys (f : Point → ℤ) (slot : ℕ) (new : Bounds) (lo hi : ℕ) : Type 0 where
  pub slot_small : slot < SLOTS
  pub lo_is : lo ≡ number (min_key f slot new)
  pub hi_is : hi ≡ number (max_key f slot new)
  pub lo_range : IsInRange (f new.lo)
  pub hi_range : IsInRange (f new.hi)
  pub ordered : int_le (f new.lo) (f new.hi) ≡ true
