-- What lists of node numbers mean: membership, ends, and what holds of each.
use Rattle.std.specs.Prelude.{◌≡◌, ℕ, ◌<◌, Bool, true, false, ◌||◌, ◌==◌, List, [], ◌∷◌, Option, None, Some}
use Rattle.endpoint_list.specs.declared.TheConstants.{NODES}

-- whether a node is among these
abbrev pub has : ℕ → List ℕ → Bool
has node [] = false
has node (x ∷ xs) = x == node || has node xs

-- the first of these, where there is one
abbrev pub first_of : List ℕ → Option ℕ
first_of [] = None
first_of (x ∷ xs) = Some x

-- the last of these, where there is one
abbrev pub last_of : List ℕ → Option ℕ
last_of [] = None
last_of (x ∷ []) = Some x
last_of (x ∷ y ∷ more) = last_of (y ∷ more)

-- each is there at most once
abbrev pub IsDistinct : List ℕ → Type 0
IsDistinct [] = Unit {0}
IsDistinct (x ∷ xs) = (has x xs ≡ false) × IsDistinct xs

-- what holds of every list of nodes
pub record IsNodeList (nodes : List ℕ) : Type 0 where
  pub distinct : IsDistinct nodes
  pub small : (node : ℕ) → has node nodes ≡ true → node < NODES
