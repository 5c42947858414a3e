-- Serves proofs alone: what `print_fix` has put into its buffer so far.
use Rattle.std.specs.Prelude.{◌≡◌, ℕ, ◌+◌, List, ◌++◌, take, drop, length}

-- A text stands from one place to another. What stood before it and behind it stays.
pub record Puts (before now : List ℕ) (at end : ℕ) (text : List ℕ) : Type 0 where
  pub ends : end ≡ at + length text
  pub front : take end now ≡ take at before ++ text
  pub rest : drop end now ≡ drop end before
