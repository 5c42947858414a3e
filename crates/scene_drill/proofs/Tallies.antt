-- Tallies, line by line: one line more, and how large the numbers get.
use Rattle.std.proofs.Common.{◌≡◌, ℕ, ◌+◌, ◌*◌, ◌^◌, ◌≤◌, ◌==◌, Bool, true, false, cond, List, [], ◌∷◌, codes, length, bytes_eq, sum_by, refl, arith}
use Rattle.std.specs.List.{position_or_len}
use Rattle.std.proofs.lemmas.List.{length-take, length-drop}
use Rattle.std.proofs.lemmas.List.Sums.{sum_by-cons}
use Rattle.scene_drill.specs.declared.tally.Tally.{Tally}
use Rattle.scene_drill.specs.Summary.{count_of, begins_with, first_word, later_words, second_number, third_number, is_answer_word}
use Rattle.scene_drill.specs.Tally.{IsWithin, plus, tally_of}
use Rattle.scene_drill.proofs.Digits.{number-le}

-- number by number
alike : (s t : Tally) → s.adds ≡ t.adds → s.pairs ≡ t.pairs → s.begin ≡ t.begin → s.stay ≡ t.stay → s.over ≡ t.over → s.hits ≡ t.hits
    → s.exchanges ≡ t.exchanges → s ≡ t
alike s t a b c d e f g i = record { adds = a i; pairs = b i; begin = c i; stay = d i; over = e i; hits = f i; exchanges = g i }

-- a line with a word of its own counts for one number
pub stay_line : (t : Tally) (line : List ℕ) → first_word line ≡ codes "stay" → record t { stay = t.stay + 1 } ≡ plus t (tally_of (line ∷ []))
unfolding plus tally_of
stay_line t line h =
    rw h (alike _ _ (omega arith) (omega arith) (omega arith) refl (omega arith) (omega arith) (omega arith))

pub begin_line : (t : Tally) (line : List ℕ) → first_word line ≡ codes "begin" → record t { begin = t.begin + 1 } ≡ plus t (tally_of (line ∷ []))
unfolding plus tally_of
begin_line t line h =
    rw h (alike _ _ (omega arith) (omega arith) refl (omega arith) (omega arith) (omega arith) (omega arith))

pub over_line : (t : Tally) (line : List ℕ) → first_word line ≡ codes "over" → record t { over = t.over + 1 } ≡ plus t (tally_of (line ∷ []))
unfolding plus tally_of
over_line t line h =
    rw h (alike _ _ (omega arith) (omega arith) (omega arith) (omega arith) refl (omega arith) (omega arith))

pub add_line : (t : Tally) (line : List ℕ) → first_word line ≡ codes "add" → record t { adds = t.adds + 1 } ≡ plus t (tally_of (line ∷ []))
unfolding plus tally_of
add_line t line h =
    rw h (alike _ _ refl (omega arith) (omega arith) (omega arith) (omega arith) (omega arith) (omega arith))

pub frame_line : (t : Tally) (line : List ℕ) (n : ℕ) → first_word line ≡ codes "frame" → n ≡ third_number line
    → record t { pairs = t.pairs + n } ≡ plus t (tally_of (line ∷ []))
unfolding plus tally_of
frame_line t line n h e =
    rw h (alike _ _ (omega arith) (omega (arith, e)) (omega arith) (omega arith) (omega arith) (omega arith) (omega arith))

pub exchanges_line : (t : Tally) (line : List ℕ) (n : ℕ) → first_word line ≡ codes "exchanges" → n ≡ second_number line
    → record t { exchanges = t.exchanges + n } ≡ plus t (tally_of (line ∷ []))
unfolding plus tally_of
exchanges_line t line n h e =
    rw h (alike _ _ (omega arith) (omega arith) (omega arith) (omega arith) (omega arith) (omega arith) (omega (arith, e)))

-- a line with none of these words
pub record IsOther (word : List ℕ) : Type 0 where
  pub add : bytes_eq word (codes "add") ≡ false
  pub frame : bytes_eq word (codes "frame") ≡ false
  pub begin : bytes_eq word (codes "begin") ≡ false
  pub stay : bytes_eq word (codes "stay") ≡ false
  pub over : bytes_eq word (codes "over") ≡ false
  pub exchanges : bytes_eq word (codes "exchanges") ≡ false

pub answer_line : (t : Tally) (line : List ℕ) (n : ℕ) → IsOther (first_word line) → is_answer_word (first_word line) ≡ true → n ≡ second_number line
    → record t { hits = t.hits + n } ≡ plus t (tally_of (line ∷ []))
unfolding plus tally_of
answer_line t line n other h e =
    rw (other.add, other.frame, other.begin, other.stay, other.over, other.exchanges, h)
    (alike _ _ (omega arith) (omega arith) (omega arith) (omega arith) (omega arith) (omega (arith, e)) (omega arith))

pub other_line : (t : Tally) (line : List ℕ) → IsOther (first_word line) → is_answer_word (first_word line) ≡ false → t ≡ plus t (tally_of (line ∷ []))
unfolding plus tally_of
other_line t line other h =
    rw (other.add, other.frame, other.begin, other.stay, other.over, other.exchanges, h)
    (alike _ _ (omega arith) (omega arith) (omega arith) (omega arith) (omega arith) (omega arith) (omega arith))

-- nothing, and what is to come
abbrev pub none : Tally
none = record { adds = 0; pairs = 0; begin = 0; stay = 0; over = 0; hits = 0; exchanges = 0 }

pub plus-none : (t : Tally) → plus none t ≡ t
unfolding plus
plus-none t = alike _ _ (omega arith) (omega arith) (omega arith) (omega arith) (omega arith) (omega arith) (omega arith)

counted_more : (word line : List ℕ) (more : List (List ℕ)) (n : ℕ) → (n + count_of word (line ∷ [])) + count_of word more ≡ n + count_of word (line ∷ more)
counted_more word line more n = omega (arith, sum_by-cons (λ l. cond (begins_with word l) 1 0) line more)

summed_more : (f : List ℕ → ℕ) (line : List ℕ) (more : List (List ℕ)) (n : ℕ) → (n + sum_by f (line ∷ [])) + sum_by f more ≡ n + sum_by f (line ∷ more)
summed_more f line more n = omega (arith, sum_by-cons f line more)

-- the first line goes from what is to come to what is done
pub line_done : (t : Tally) (line : List ℕ) (more : List (List ℕ)) → plus (plus t (tally_of (line ∷ []))) (tally_of more) ≡ plus t (tally_of (line ∷ more))
unfolding plus tally_of
line_done t line more =
    alike _ _ (counted_more (codes "add") line more t.adds)
    (summed_more (λ l. cond (begins_with (codes "frame") l) (third_number l) 0) line more t.pairs)
    (counted_more (codes "begin") line more t.begin)
    (counted_more (codes "stay") line more t.stay)
    (counted_more (codes "over") line more t.over)
    (summed_more (λ l. cond (is_answer_word (first_word l)) (second_number l) 0) line more t.hits)
    (summed_more (λ l. cond (begins_with (codes "exchanges") l) (second_number l) 0) line more t.exchanges)

pub none-within : (n : ℕ) → IsWithin n none
none-within n = record {
  adds = omega arith;
  pairs = omega arith;
  begin = omega arith;
  stay = omega arith;
  over = omega arith;
  hits = omega arith;
  exchanges = omega arith;
}

-- a line counts for no more than its bytes leave room for
counted-le : (b : Bool) (n : ℕ) → 0 + cond b 1 0 ≤ (n + 1) * 2 ^ 64
counted-le b n = elim b as (λ t. 0 + cond t 1 0 ≤ (n + 1) * 2 ^ 64) [ true ↦ omega arith | false ↦ omega arith ]

summed-le : (b : Bool) (k n : ℕ) → k ≤ (n + 1) * 2 ^ 64 → 0 + cond b k 0 ≤ (n + 1) * 2 ^ 64
summed-le b k n h = elim b as (λ t. 0 + cond t k 0 ≤ (n + 1) * 2 ^ 64) [ true ↦ omega (arith, h) | false ↦ omega arith ]

first_word-le : (line : List ℕ) → length (first_word line) ≤ length line
first_word-le line = omega (arith, length-take (position_or_len (λ b. b == 32) line) line)

later_words-le : (line : List ℕ) → length (later_words line) ≤ length line
later_words-le line = omega (arith, length-drop (position_or_len (λ b. b == 32) line + 1) line)

second_number-le : (line : List ℕ) → second_number line ≤ (length line + 1) * 2 ^ 64
second_number-le line =
    omega (arith, number-le (first_word (later_words line)), first_word-le (later_words line), later_words-le line)

third_number-le : (line : List ℕ) → third_number line ≤ (length line + 1) * 2 ^ 64
third_number-le line =
    omega (
      arith,
      number-le (first_word (later_words (later_words line))),
      first_word-le (later_words (later_words line)),
      later_words-le (later_words line),
      later_words-le line,
    )

line-within : (line : List ℕ) → IsWithin (length line + 1) (tally_of (line ∷ []))
unfolding tally_of
line-within line = record {
  adds = counted-le (begins_with (codes "add") line) (length line);
  pairs = summed-le (begins_with (codes "frame") line) (third_number line) (length line) (third_number-le line);
  begin = counted-le (begins_with (codes "begin") line) (length line);
  stay = counted-le (begins_with (codes "stay") line) (length line);
  over = counted-le (begins_with (codes "over") line) (length line);
  hits = summed-le (is_answer_word (first_word line)) (second_number line) (length line) (second_number-le line);
  exchanges = summed-le (begins_with (codes "exchanges") line) (second_number line) (length line) (second_number-le line);
}

-- one line more stays within the bytes passed
pub more-within : (t : Tally) (line : List ℕ) (m n : ℕ) → IsWithin m t → m + length line + 1 ≤ n → IsWithin n (plus t (tally_of (line ∷ [])))
unfolding plus
more-within t line m n h size =
    let one = line-within line in
    record {
      adds = omega (arith, h.adds, one.adds, size);
      pairs = omega (arith, h.pairs, one.pairs, size);
      begin = omega (arith, h.begin, one.begin, size);
      stay = omega (arith, h.stay, one.stay, size);
      over = omega (arith, h.over, one.over, size);
      hits = omega (arith, h.hits, one.hits, size);
      exchanges = omega (arith, h.exchanges, one.exchanges, size);
    }
