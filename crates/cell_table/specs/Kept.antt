-- Serves proofs alone: the rings of links that keep the slots of each bucket, and the numbers of each level.
use Rattle.std.specs.Prelude.{◌≡◌, ℕ, zero, suc, ◌+◌, ◌<◌, ◌≤◌, Bool, true, false, ◌==◌, nat_lt, ℤ, ◌≤ℤ◌, ◌<ℤ◌}
use Rattle.std.specs.Prelude.{List, [], ◌∷◌, ◌++◌, length, slice_index, slice_index_or, slice_set, map, filter, count_by, Option, None, Some, if◌then◌else◌}
use Rattle.std.specs.Ordering.{nat_cmp}
use Rattle.std.specs.FinMap.{FinMap, get, contains_key}
use Rattle.fixed_box.specs.declared.TheConstants.{SLOTS}
use Rattle.cell_table.specs.declared.TheConstants.{BUCKETS, LEVELS}
use Rattle.cell_table.specs.declared.rings.TheConstants.{NODES}
use Rattle.cell_table.specs.declared.cell_key.CellKey.{CellKey}
use Rattle.cell_table.specs.Cells.{bucket_of, has, same_cell}
use Rattle.slot_lists.specs.SlotMap.{entries_from}
use Rattle.slot_lists.specs.Links.{Distinct, Links}

-- the slots of a list, counted from n, whose keys pass a test
abbrev pub slots_from : (CellKey → Bool) → ℕ → List (Option CellKey) → List ℕ
slots_from p n keys = map (λ e. e.0) (filter (λ e. p e.1) (entries_from n keys))

-- whether there is a key, and it passes a test
abbrev pub meets_test : (CellKey → Bool) → Option CellKey → Bool
meets_test p None = false
meets_test p (Some k) = p k

-- whether a slot's key passes a test
abbrev pub at : (CellKey → Bool) → List (Option CellKey) → ℕ → Bool
at p keys s = meets_test p (slice_index_or keys s None)

-- whether a slot's key is hashed into a bucket
abbrev pub in_bucket : List (Option CellKey) → ℕ → ℕ → Bool
in_bucket keys b s = at (λ k. bucket_of k == b) keys s

-- the ring of a bucket: the bucket's node, its slots, and the node again
pub record Ring (keys : List (Option CellKey)) (next prev : List ℕ) (b : ℕ) : Type 0 where
  pub slots : List ℕ
  pub linked : Links next prev (SLOTS + b) slots (SLOTS + b)
  pub distinct : Distinct slots
  pub members : (s : ℕ) → has slots s ≡ in_bucket keys b s

-- each bucket's ring has exactly its slots, and each level's number is that of its slots
pub record IsCellTable (keys : List (Option CellKey)) (next prev levels : List ℕ) : Type 0 where
  pub keys_len : length keys ≡ SLOTS
  pub next_len : length next ≡ NODES
  pub prev_len : length prev ≡ NODES
  pub levels_len : length levels ≡ LEVELS
  pub rings : (b : ℕ) → b < BUCKETS → Ring keys next prev b
  pub counted : (l : ℕ) → l < LEVELS → slice_index levels l ≡ count_by (meets_test (λ k. k.level == l)) keys
  pub low : (s : ℕ) (k : CellKey) → slice_index_or keys s None ≡ Some k → k.level < LEVELS

-- the slots that a walk meets, at most n
unfoldable pub walk : List ℕ → ℕ → ℕ → List ℕ
walk next zero u = []
walk next (suc n) u = if nat_lt u SLOTS then u ∷ walk next n (slice_index next u) else []

-- those of the slots that have this key
abbrev pub picked : CellKey → List (Option CellKey) → List ℕ → List ℕ
picked key keys slots = filter (at (λ k. same_cell k key) keys) slots

-- the slots in the ring of a bucket
abbrev pub ring_in : List ℕ → ℕ → List ℕ
ring_in next b = walk next SLOTS (slice_index next (SLOTS + b))

-- the slots in the ring of a key's bucket
abbrev pub ring_of : List ℕ → CellKey → List ℕ
ring_of next key = ring_in next (bucket_of key)

-- a list of slots that have keys, among them all with this key
pub record IsBucket (cells : FinMap nat_cmp CellKey) (key : CellKey) (slots : List ℕ) : Type 0 where
  pub members : (slot : ℕ) → get cells slot ≡ Some key → has slots slot ≡ true
  pub present : (slot : ℕ) → has slots slot ≡ true → contains_key cells slot ≡ true

-- a slot that stands in some ring
pub record IsLinked (next : List ℕ) (s : ℕ) : Type 0 where
  pub key : CellKey
  pub here : has (ring_of next key) s ≡ true

-- the rings of a row of cells are appended
pub record Rings (next : List ℕ) (key : CellKey) (end : ℤ) (old new : List ℕ) : Type 0 where
  pub slots : List ℕ
  pub appended : new ≡ old ++ slots
  pub whole : (z : ℤ) (s : ℕ) → key.z ≤ℤ z → z <ℤ end → has (ring_of next (record key { z = z })) s ≡ true → has slots s ≡ true
  pub linked : (s : ℕ) → has slots s ≡ true → IsLinked next s

-- a node that a walk of a ring starts at: a slot, or a bucket's node, which no slot follows
pub record StartsRing (next : List ℕ) (u : ℕ) : Type 0 where
  pub below : u < NODES
  pub closed : SLOTS ≤ u → SLOTS ≤ slice_index next u

-- the slots in the rings of the first n buckets
unfoldable pub rings_to : List ℕ → ℕ → List ℕ
rings_to next zero = []
rings_to next (suc n) = rings_to next n ++ ring_in next n

-- the slots in all rings, and for each ring the place where its slots start, and the end
pub record AreRings (next starts slots : List ℕ) : Type 0 where
  pub len : length starts ≡ BUCKETS + 1
  pub starts_are : (b : ℕ) → b ≤ BUCKETS → slice_index starts b ≡ length (rings_to next b)
  pub slots_are : slots ≡ rings_to next BUCKETS

-- the starts of stretches of a list, one after another
pub record AreStarts (starts slots : List ℕ) : Type 0 where
  pub rising : (b c : ℕ) → b ≤ c → c < length starts → slice_index starts b ≤ slice_index starts c
  pub inside : (b : ℕ) → slice_index starts b ≤ length slots

-- the links after slot s is put behind node u
abbrev pub put_next : List ℕ → ℕ → ℕ → List ℕ
put_next N s u = slice_set (slice_set N s (slice_index N u)) u s

abbrev pub put_prev : List ℕ → List ℕ → ℕ → ℕ → List ℕ
put_prev N P s u = slice_set (slice_set P (slice_index N u) s) s u

-- the links after slot s is taken out
abbrev pub take_next : List ℕ → List ℕ → ℕ → List ℕ
take_next N P s = slice_set N (slice_index P s) (slice_index N s)

abbrev pub take_prev : List ℕ → List ℕ → ℕ → List ℕ
take_prev N P s = slice_set P (slice_index N s) (slice_index P s)
