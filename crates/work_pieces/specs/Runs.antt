-- Definitions: what calls of a closure at the runs of a list give, where a run is some of its items that stand side by side.
use Rattle.std.specs.Prelude.{◌≡◌, ℕ, zero, suc, List, [], ◌∷◌, ◌++◌, length, Result}
use Rattle.std.specs.Int.{div_ceil}
use Rattle.std.specs.Fork.{slice_chunk}
use denote.Ref.{Bor}
use denote.Param.Members.{Shared}
use Rattle.work_pieces.specs.Each.{Each, Accepts}

-- lists put together, one after another
abbrev pub put_together : {X : Type 0} → List (List X) → List X
put_together [] = []
put_together (xs ∷ rest) = xs ++ put_together rest

-- the first n pieces of a list, of so many items each
abbrev pub chunks_to : {X : Type 0} → ℕ → List X → ℕ → List (List X)
chunks_to size xs zero = []
chunks_to size xs (suc n) = chunks_to size xs n ++ slice_chunk xs size n ∷ []

-- the pieces of a list for some workers, in order: of ceil(n / workers) items each, the last one possibly shorter
abbrev pub pieces_of : {X : Type 0} → ℕ → List X → List (List X)
pieces_of workers xs = chunks_to (div_ceil (length xs) workers) xs (div_ceil (length xs) (div_ceil (length xs) workers))

-- A list cut into runs, as many as answers, and each answer belongs to its run.
pub record InRuns {X Y : Type 0} (P : List X → Y → Type 0) (xs : List X) (ys : List Y) : Type 0 where
  pub runs : List (List X)
  pub whole : put_together runs ≡ xs
  pub each : Each P runs ys

module _ {F X Y E : Type 0} (g : Shared F (Bor (List X) × Unit {0}) (Result Y E)) (f : F) where
  -- f may be called at a `&` to each run of a list
  abbrev pub AcceptsRuns : List X → Type 0
  AcceptsRuns xs = (before run after : List X) → xs ≡ before ++ (run ++ after) → Accepts g f run
