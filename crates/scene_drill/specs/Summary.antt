-- What a report sums up to.
use Rattle.std.specs.Prelude.{ℕ, Bool, ◌||◌, ◌&&◌, ◌==◌, nat_le, List, [], ◌++◌, length, codes, decimal, bytes_eq, sum_by, count_by, if◌then◌else◌}
use Rattle.std.specs.Char.{is_ascii_digit}
use Rattle.std.specs.List.{slice_split, before_first, after_first, list_all}
use Rattle.std.specs.Str.Parse.{digits_value}

-- The lines of a text: what stands between its line feeds. The last line needs none behind it.
abbrev pub lines : List ℕ → List (List ℕ)
lines text = slice_split (λ b. b == 10) text

-- the first word of a line: what stands before the first space
abbrev pub first_word : List ℕ → List ℕ
first_word line = before_first (λ b. b == 32) line

-- what stands after the first space, or nothing
abbrev pub later_words : List ℕ → List ℕ
later_words line = after_first (λ b. b == 32) line

-- The value of a word of one to twenty digits, and 0 of any other. Each number in a report is such a word.
abbrev pub number : List ℕ → ℕ
number word = if nat_le (length word) 20 && list_all is_ascii_digit word then digits_value 10 word else 0

-- the number that is the second word of a line
abbrev pub second_number : List ℕ → ℕ
second_number line = number (first_word (later_words line))

-- the number that is the third word of a line
abbrev pub third_number : List ℕ → ℕ
third_number line = number (first_word (later_words (later_words line)))

-- whether a line has this first word
abbrev pub begins_with : List ℕ → List ℕ → Bool
begins_with word line = bytes_eq (first_word line) word

-- whether a line with this first word answers a query
abbrev pub is_answer_word : List ℕ → Bool
is_answer_word word = bytes_eq word (codes "box") || bytes_eq word (codes "point") || bytes_eq word (codes "ray") || bytes_eq word (codes "seg")

-- how many lines have this first word
abbrev pub count_of : List ℕ → List (List ℕ) → ℕ
count_of word ls = count_by (begins_with word) ls

-- the pairs of all frames
abbrev pub pairs_of : List (List ℕ) → ℕ
pairs_of ls = sum_by (λ line. if begins_with (codes "frame") line then third_number line else 0) ls

-- the boxes that all queries hit
abbrev pub hits_of : List (List ℕ) → ℕ
hits_of ls = sum_by (λ line. if is_answer_word (first_word line) then second_number line else 0) ls

-- the exchanges of all frames
abbrev pub exchanges_of : List (List ℕ) → ℕ
exchanges_of ls = sum_by (λ line. if begins_with (codes "exchanges") line then second_number line else 0) ls

-- one line of a summary
unfoldable pub row : List ℕ → ℕ → List ℕ
row name value = name ++ decimal value ++ codes "\n"

-- The summary of a play of so many boxes and frames. The exchanges come only where they are shown.
abbrev pub summary : ℕ → ℕ → Bool → List ℕ → List ℕ
summary boxes frames shown report =
    row (codes "boxes ") boxes
    ++ row (codes "frames ") frames
    ++ row (codes "adds ") (count_of (codes "add") (lines report))
    ++ row (codes "pairs ") (pairs_of (lines report))
    ++ row (codes "begin ") (count_of (codes "begin") (lines report))
    ++ row (codes "stay ") (count_of (codes "stay") (lines report))
    ++ row (codes "over ") (count_of (codes "over") (lines report))
    ++ row (codes "hits ") (hits_of (lines report))
    ++ (if shown then row (codes "exchanges ") (exchanges_of (lines report)) else [])
