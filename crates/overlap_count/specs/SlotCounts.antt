-- Serves proofs alone: how lists keep their counts and sets their slots, and what those of a table keep.
use Rattle.std.specs.Prelude.{◌≡◌, ℕ, zero, suc, ◌+◌, ◌*◌, ◌/◌, ◌%◌, ◌<◌, ◌≤◌, Bool}
use Rattle.std.specs.Prelude.{◌==◌, if◌then◌else◌, List, [], ◌∷◌, ◌++◌, length, map, count_by, slice_index, slice_index_or}
use Rattle.std.specs.List.{range_with_len}
use Rattle.std.specs.Int.{bit_at}
use Rattle.fixed_box.specs.declared.TheConstants.{SLOTS}
use Rattle.broad_index.specs.declared.pair.Pair.{Pair}
use Rattle.overlap_count.specs.declared.tally.Tally.{Tally}
use Rattle.overlap_count.specs.Counts.{count_of}

-- the numbers that a list of blocks keeps, 64 a block, where `at` reads one of them
unfoldable pub spread : {A : Type 0} → (A → ℕ → ℕ) → A → List A → List ℕ
spread at blank blocks = map (λ k. at (slice_index_or blocks (k / 64) blank) (k % 64)) (range_with_len 0 (64 * length blocks))

-- a tally's count at place k: its bits there are the count's two binary digits
abbrev pub digit : Tally → ℕ → ℕ
digit t k = bit_at t.low k + 2 * bit_at t.high k

-- the tally of 64 times 0, which also stands past the end
abbrev pub blank : Tally
blank = record { low = 0; high = 0 }

-- the counts of a list
abbrev pub counts_of : List Tally → List ℕ
counts_of tallies = spread digit blank tallies

-- the bits of a set
abbrev pub bits_of : List ℕ → List ℕ
bits_of words = spread bit_at 0 words

abbrev pub is_one : ℕ → Bool
is_one n = n == 1

-- a set has few words, and its number is that of its slots
pub record IsSet (words : List ℕ) (number : ℕ) : Type 0 where
  pub few : length words ≤ 128
  pub number_is : number ≡ count_by is_one (bits_of words)

-- the bit of slot b in the set of slot a
abbrev pub mark_of : List (List ℕ) → ℕ → ℕ → ℕ
mark_of sets a b = slice_index (slice_index_or sets a []) b

abbrev pub is_marked : List (List ℕ) → ℕ → ℕ → Bool
is_marked sets a b = mark_of sets a b == 1

-- there are lists and sets for all slots, and the sets have the pairs that count 3
pub record IsTable (by_slot sets : List (List ℕ)) : Type 0 where
  pub all : length by_slot ≡ SLOTS
  pub all_sets : length sets ≡ SLOTS
  pub small : (a b : ℕ) → count_of by_slot a b ≤ 3
  pub marked : (a b : ℕ) → mark_of sets a b ≡ (if count_of by_slot a b == 3 then 1 else 0)

-- the pairs of slot a with those places of a word, of the first n, whose bit is set
unfoldable pub pairs_of_bits : ℕ → ℕ → ℕ → ℕ → List Pair
pairs_of_bits a base word zero = []
pairs_of_bits a base word (suc n) = pairs_of_bits a base word n ++ (if bit_at word n == 1 then record { a = a; b = base + n } ∷ [] else [])

-- what is left of a word when its bits before a place are taken out
pub record IsLeft (word rest place : ℕ) : Type 0 where
  pub few : place ≤ 64
  pub before : (k : ℕ) → k < place → bit_at rest k ≡ 0
  pub from : (k : ℕ) → k < 64 → place ≤ k → bit_at rest k ≡ bit_at word k
