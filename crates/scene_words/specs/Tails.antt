-- What may end a line under version 2: whose a new box is and that it is fixed, or that a ray lists by entry.
use Rattle.std.specs.Prelude.{ℕ, ◌+◌, Bool, true, false, List, [], ◌∷◌, length, take, drop, reverse, codes, bytes_eq, if◌then◌else◌, Option}
use Rattle.std.specs.Prelude.{Some, None}
use Rattle.scene_words.specs.declared.verb.Verb.{Verb}
use Rattle.scene_words.specs.declared.verb.Verb.TheVariants as verb
use Rattle.scene_words.specs.declared.version.Version.{Version}
use Rattle.scene_words.specs.declared.version.Version.TheVariants.{Two}

-- words without their tail, the word of an owner, and whether they end with the flag of their row, `fixed` or `entry`
pub record Tail : Type 0 where
  pub plain : List (List ℕ)
  pub owner : Option (List ℕ)
  pub flagged : Bool

-- from the last word to the first: a last one that is this one is taken off
abbrev pub off_flag : List ℕ → List (List ℕ) → Bool × List (List ℕ)
off_flag flag [] = (false, [])
off_flag flag (last ∷ before) = if bytes_eq last flag then (true, before) else (false, last ∷ before)

-- from the last word to the first: where at least two remain and the last but one is `owner`, these two are taken off
abbrev pub off_owner : List (List ℕ) → Option (List ℕ) × List (List ℕ)
off_owner [] = (None, [])
off_owner (last ∷ []) = (None, last ∷ [])
off_owner (last ∷ next ∷ before) = if bytes_eq next (codes "owner") then (Some last, before) else (None, last ∷ next ∷ before)

-- the tail of an `add`: the flag comes off first
abbrev pub owned : Bool × List (List ℕ) → Tail
owned (flagged, words) = record { plain = reverse (off_owner words).1; owner = (off_owner words).0; flagged = flagged }

-- the tail of a `ray`
abbrev pub unowned : Bool × List (List ℕ) → Tail
unowned (flagged, words) = record { plain = reverse words; owner = None; flagged = flagged }

-- The words behind the first six. Version 1 has no tails.
abbrev pub tail_of : Verb → Version → List (List ℕ) → Tail
tail_of verb.Add Two words = owned (off_flag (codes "fixed") (reverse words))
tail_of verb.Ray Two words = unowned (off_flag (codes "entry") (reverse words))
tail_of v version words = record { plain = words; owner = None; flagged = false }

-- how many words there are, without the tail
abbrev pub shortened : Verb → List (List ℕ) → ℕ
shortened v words = length (take 6 words) + length (tail_of v Two (drop 6 words)).plain

-- how many words count for a row
abbrev pub counted : Verb → Version → List (List ℕ) → ℕ
counted verb.Add Two words = shortened verb.Add words
counted verb.Ray Two words = shortened verb.Ray words
counted v version words = length words
