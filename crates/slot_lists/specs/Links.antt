-- Serves proofs alone: distinct numbers, and arrays of links that lead from one to the next and back.
use Rattle.std.specs.Prelude.{◌≡◌, ◌≢◌, ℕ, ◌<◌, List, [], ◌∷◌, slice_index}

-- k is none of these
abbrev pub Fresh : ℕ → List ℕ → Type 0
Fresh k [] = Unit {0}
Fresh k (x ∷ xs) = (k ≢ x) × Fresh k xs

-- no two of these are one
abbrev pub Distinct : List ℕ → Type 0
Distinct [] = Unit {0}
Distinct (x ∷ xs) = Fresh x xs × Distinct xs

-- all are below n
abbrev pub Below : ℕ → List ℕ → Type 0
Below n [] = Unit {0}
Below n (x ∷ xs) = (x < n) × Below n xs

-- from u through these to e, forward and back
abbrev pub Links : List ℕ → List ℕ → ℕ → List ℕ → ℕ → Type 0
Links next prev u [] e = (slice_index next u ≡ e) × (slice_index prev e ≡ u)
Links next prev u (x ∷ xs) e = (slice_index next u ≡ x) × (slice_index prev x ≡ u) × Links next prev x xs e
