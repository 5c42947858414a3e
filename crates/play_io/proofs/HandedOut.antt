-- What a read from memory hands out, and what it leaves.
use Rattle.std.proofs.Common.{◌≡◌, ℕ, ◌+◌, List, ◌++◌, take, drop}
use Rattle.std.proofs.lemmas.List.{take-append-drop, drop-drop}

-- The first n bytes past a place, and what lies behind them, are all that lies past that place.
pub rest_from_front : (bytes front : List ℕ) (at n : ℕ) → front ≡ take n (drop at bytes) → front ++ drop (at + n) bytes ≡ drop at bytes
rest_from_front bytes front at n e = rw (e, ← drop-drop n at bytes) (take-append-drop n (drop at bytes))
