-- Serves proofs alone: the links that keep a list. The node NODES stands before the first and behind the last.
use Rattle.std.specs.Prelude.{◌≡◌, ℕ, zero, suc, ◌+◌, ◌<◌, ◌==◌, nat_lt, if◌then◌else◌, List, [], ◌∷◌, length, slice_index, slice_set, Option, None, Some}
use Rattle.endpoint_list.specs.declared.TheConstants.{NODES}
use Rattle.slot_lists.specs.Links.{Fresh, Distinct, Below, Links}

-- the nodes from u on, at most n
unfoldable pub walk : List ℕ → ℕ → ℕ → List ℕ
walk next zero u = []
walk next (suc n) u = if nat_lt u NODES then u ∷ walk next n (slice_index next u) else []

-- the list that the links keep
abbrev pub listed : List ℕ → List ℕ
listed next = walk next NODES (slice_index next NODES)

-- a node's neighbour, or none where that is an end of the list
abbrev pub neighbour : ℕ → Option ℕ
neighbour n = if n == NODES then None else Some n

-- the links keep these nodes, and every other one has the mark of absence
pub record AreLinked (next prev nodes : List ℕ) : Type 0 where
  pub next_len : length next ≡ NODES + 1
  pub prev_len : length prev ≡ NODES + 1
  pub linked : Links next prev NODES nodes NODES
  pub distinct : Distinct nodes
  pub below : Below NODES nodes
  pub absent : (node : ℕ) → node < NODES → Fresh node nodes → slice_index next node ≡ NODES + 1

-- the links after a node is put before another, or behind the last where that is the end
abbrev pub put_next : List ℕ → List ℕ → ℕ → ℕ → List ℕ
put_next N P node after = slice_set (slice_set N (slice_index P after) node) node after

abbrev pub put_prev : List ℕ → ℕ → ℕ → List ℕ
put_prev P node after = slice_set (slice_set P node (slice_index P after)) after node

-- the links after a node is taken out
abbrev pub unlinked_next : List ℕ → List ℕ → ℕ → List ℕ
unlinked_next N P node = slice_set (slice_set N (slice_index P node) (slice_index N node)) node (NODES + 1)

abbrev pub unlinked_prev : List ℕ → List ℕ → ℕ → List ℕ
unlinked_prev N P node = slice_set P (slice_index N node) (slice_index P node)

-- the links after a node and the next one, b, change places
abbrev pub exchanged_next : List ℕ → List ℕ → ℕ → ℕ → List ℕ
exchanged_next N P a b = slice_set (slice_set (slice_set N (slice_index P a) b) a (slice_index N b)) b a

abbrev pub exchanged_prev : List ℕ → List ℕ → ℕ → ℕ → List ℕ
exchanged_prev N P a b = slice_set (slice_set (slice_set P b (slice_index P a)) (slice_index N b) a) a b
