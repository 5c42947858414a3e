-- The lines of a scene's bytes.
use Rattle.std.specs.Prelude.{◌≡◌, ℕ, Bool, ◌==◌, List, [], ◌∷◌, ◌++◌, if◌then◌else◌}
use Rattle.std.specs.List.{slice_split, list_any, position_or_len, before_first, after_first}
use Rattle.std.specs.Str.Lines.{strip_carriage_return}

-- the piece after the last line feed: a line where the input has ended and the piece isn't empty
abbrev pub last_line : Bool → List ℕ → List (List ℕ)
last_line ended [] = []
last_line ended (b ∷ bs) = if ended then strip_carriage_return (b ∷ bs) ∷ [] else []

-- each piece before a line feed is a line
abbrev pub lines_of : Bool → List (List ℕ) → List (List ℕ)
lines_of ended [] = []
lines_of ended (piece ∷ []) = last_line ended piece
lines_of ended (piece ∷ next ∷ more) = strip_carriage_return piece ∷ lines_of ended (next ∷ more)

-- The bytes, cut after each line feed. A line loses its line feed and then one carriage return at its end.
abbrev pub lines : List ℕ → Bool → List (List ℕ)
lines bytes ended = lines_of ended (slice_split (λ b. b == 10) bytes)

-- the byte that ends a line
abbrev pub is_feed : ℕ → Bool
is_feed b = b == 10

-- whether a line ends among the bytes
abbrev pub has_feed : List ℕ → Bool
has_feed bytes = list_any is_feed bytes

-- how many bytes stand before the first line feed, or how many there are
abbrev pub length_ahead : List ℕ → ℕ
length_ahead bytes = position_or_len is_feed bytes

-- the bytes before the first line feed, or all of them, without one carriage return at the end
abbrev pub line_ahead : List ℕ → List ℕ
line_ahead bytes = strip_carriage_return (before_first is_feed bytes)

-- the bytes after the first line feed, or none
abbrev pub past_line : List ℕ → List ℕ
past_line bytes = after_first is_feed bytes

-- the second list begins with the first
abbrev pub IsPrefix : {A : Type 0} → List A → List A → Type 0
IsPrefix {A} front whole = (rest : List A) × (whole ≡ front ++ rest)
