-- Bytes cut at line feeds: the first line, and what follows it.
use Rattle.std.proofs.Common.{◌≡◌, ℕ, zero, suc, ◌+◌, ◌<◌, ◌≤◌, Bool, true, false, cond, not, ◌||◌, List, [], ◌∷◌, ◌++◌, length, take, drop, refl}
use Rattle.std.proofs.Common.{sym, ap, ◌∙◌, arith, ⊎_elim, slice_index}
use Rattle.std.specs.List.{slice_split, position_or_len, before_first, after_first, onto_first}
use Rattle.std.specs.Str.Lines.{strip_carriage_return}
use Rattle.std.proofs.lemmas.Bool.{cases_lt, cases_Bool}
use Rattle.std.proofs.lemmas.List.{length-drop, length-take-le, take_all, drop_all, take-append-le, drop-append-le, length-append, take-append-drop}
use Rattle.std.proofs.lemmas.List.Sums.{position_or_len_is, prefix_len-le-length}
use Rattle.std.proofs.lemmas.List.Splits.{slice_split_first}
use Rattle.memchr.specs.Find.{NoneBefore, Nowhere, Passes, is_byte}
use Rattle.scene_lines.specs.SceneLines.{lines, lines_of, is_feed, has_feed, length_ahead, line_ahead, past_line, IsPrefix}

-- a list of pieces is never empty
pieces : (p : ℕ → Bool) (bs : List ℕ) → (piece : List ℕ) × (more : List (List ℕ)) × (slice_split p bs ≡ piece ∷ more)
pieces p [] = ([], [], refl)
pieces p (b ∷ bs) =
    elim (p b) as (λ t. (piece : List ℕ) × (more : List (List ℕ)) × (cond t ([] ∷ slice_split p bs) (onto_first b (slice_split p bs)) ≡ piece ∷ more)) [
      | true ↦ ([], slice_split p bs, refl)
      | false ↦ let rest = pieces p bs in (b ∷ rest.0, rest.1, ap (onto_first b) rest.2)
    ]

-- a line before others
line_first : (ended : Bool) (line : List ℕ) (bs : List ℕ) → lines_of ended (line ∷ slice_split is_feed bs) ≡ strip_carriage_return line ∷ lines bs ended
line_first ended line bs = let rest = pieces is_feed bs in rw rest.2 refl

-- bytes in which nothing passes are one piece
uncut : (p : ℕ → Bool) (bs : List ℕ) → length bs ≤ position_or_len p bs → slice_split p bs ≡ bs ∷ []
uncut p [] h = refl
uncut p (b ∷ bs) h =
    elim (p b) as (λ t. length (b ∷ bs) ≤ cond (not t) (1 + position_or_len p bs) 0 → cond t ([] ∷ slice_split p bs) (onto_first b (slice_split p bs))
    ≡ (b ∷ bs) ∷ []) [
      | true ↦ λ h. absurd (omega arith)
      | false ↦ λ h. ap (onto_first b) (uncut p bs (omega arith))
    ] h

-- the first line of bytes that have a line feed
lines_at_feed : (ended : Bool) (bs : List ℕ) → length_ahead bs < length bs → lines bs ended ≡ line_ahead bs ∷ lines (past_line bs) ended
lines_at_feed ended bs h = ap (lines_of ended) (slice_split_first is_feed bs 0 h) ∙ line_first ended (before_first is_feed bs) (after_first is_feed bs)

-- the one line of bytes that have none
lines_without_feed : (bs : List ℕ) → 0 < length bs → length bs ≤ length_ahead bs → lines bs true ≡ strip_carriage_return bs ∷ []
lines_without_feed [] some h = absurd (omega arith)
lines_without_feed (b ∷ bs) some h = ap (lines_of true) (uncut is_feed (b ∷ bs) h)

-- before the end of the input such bytes have no line
lines_unended : (bs : List ℕ) → length bs ≤ length_ahead bs → lines bs false ≡ []
lines_unended [] h = refl
lines_unended (b ∷ bs) h = ap (lines_of false) (uncut is_feed (b ∷ bs) h)

-- the lines are the first one, and those of the bytes past it
pub lines_first : (bs : List ℕ) → 0 < length bs → lines bs true ≡ line_ahead bs ∷ lines (past_line bs) true
lines_first bs some =
    ⊎_elim (λ h. lines_at_feed true bs h)
    (λ h.
    let all : take (length_ahead bs) bs ≡ bs = take_all (length_ahead bs) bs h in
    let none : drop (length_ahead bs + 1) bs ≡ [] = drop_all (length_ahead bs + 1) bs (omega arith) in
    lines_without_feed bs some h ∙ rw (all, none) refl)
    (cases_lt (length_ahead bs) (length bs))

-- what follows a line feed doesn't move it
pub length_ahead-append : (xs ys : List ℕ) → length_ahead xs < length xs → length_ahead (xs ++ ys) ≡ length_ahead xs
length_ahead-append [] ys h = absurd (omega arith)
length_ahead-append (x ∷ xs) ys h =
    elim (is_feed x) as (λ t. cond (not t) (1 + length_ahead xs) 0 < length (x ∷ xs)
    → cond (not t) (1 + length_ahead (xs ++ ys)) 0 ≡ cond (not t) (1 + length_ahead xs) 0) [
      | true ↦ λ _. refl
      | false ↦ λ h. ap (λ n. 1 + n) (length_ahead-append xs ys (omega arith))
    ] h

-- with no line feed, all bytes stand ahead
pub length_ahead-le : (xs ys : List ℕ) → length xs ≤ length_ahead xs → length xs ≤ length_ahead (xs ++ ys)
length_ahead-le [] ys h = omega arith
length_ahead-le (x ∷ xs) ys h =
    elim (is_feed x) as (λ t. length (x ∷ xs) ≤ cond (not t) (1 + length_ahead xs) 0 → length (x ∷ xs) ≤ cond (not t) (1 + length_ahead (xs ++ ys)) 0) [
      | true ↦ λ h. absurd (omega arith)
      | false ↦ λ h. omega (arith, length_ahead-le xs ys (omega arith))
    ] h

pub length_ahead-within : (bs : List ℕ) → length_ahead bs ≤ length bs
length_ahead-within bs = prefix_len-le-length (λ b. not (is_feed b)) bs

-- nor does it change the first line and what is past it
pub line_ahead-append : (xs ys : List ℕ) → length_ahead xs < length xs → line_ahead (xs ++ ys) ≡ line_ahead xs
line_ahead-append xs ys h = rw (length_ahead-append xs ys h, take-append-le (length_ahead xs) xs ys (omega arith)) refl

pub past_line-append : (xs ys : List ℕ) → length_ahead xs < length xs → past_line (xs ++ ys) ≡ past_line xs ++ ys
past_line-append xs ys h = rw (length_ahead-append xs ys h) (drop-append-le (length_ahead xs + 1) xs ys (omega arith))

-- the lines that have ended stay, whatever bytes follow
pub lines_prefix : (n : ℕ) (front rest : List ℕ) → length front ≤ n → IsPrefix (lines front false) (lines (front ++ rest) true)
lines_prefix zero front rest small =
    let none : lines front false ≡ [] = lines_unended front (omega (arith, length_ahead-within front)) in
    rw none (lines (front ++ rest) true, refl)
lines_prefix (suc n) front rest small =
    ⊎_elim
    (λ h.
    let later = lines_prefix n (past_line front) rest (omega (arith, length-drop (length_ahead front + 1) front)) in
    let whole : lines (front ++ rest) true ≡ line_ahead front ∷ lines (past_line front ++ rest) true =
    lines_at_feed true (front ++ rest) (omega (arith, length_ahead-append front rest h, length-append front rest))
    ∙ rw (line_ahead-append front rest h, past_line-append front rest h) refl in
    rw (lines_at_feed false front h, whole) (later.0, ap (λ ls. line_ahead front ∷ ls) later.1))
    (λ h. rw (lines_unended front h) (lines (front ++ rest) true, refl))
    (cases_lt (length_ahead front) (length front))

-- whether a line ends among the bytes, by the place of the first line feed
pub feed_below : (bs : List ℕ) → has_feed bs ≡ true → length_ahead bs < length bs
feed_below [] h = absurd (cc)
feed_below (b ∷ bs) h =
    elim (is_feed b) as (λ t. (t || has_feed bs) ≡ true → cond (not t) (1 + length_ahead bs) 0 < length (b ∷ bs)) [
      | true ↦ λ _. omega arith
      | false ↦ λ h. omega (arith, feed_below bs h)
    ] h

pub no_feed_below : (bs : List ℕ) → has_feed bs ≡ false → length_ahead bs ≡ length bs
no_feed_below [] h = refl
no_feed_below (b ∷ bs) h =
    elim (is_feed b) as (λ t. (t || has_feed bs) ≡ false → cond (not t) (1 + length_ahead bs) 0 ≡ length (b ∷ bs)) [
      | true ↦ λ h. absurd (cc)
      | false ↦ λ h. omega (arith, no_feed_below bs h)
    ] h

pub no_feed_from : (bs : List ℕ) → length_ahead bs ≡ length bs → has_feed bs ≡ false
no_feed_from bs h = ⊎_elim (λ some. absurd (omega (arith, feed_below bs some))) (λ none. none) (cases_Bool (has_feed bs))

-- past bytes that are known to be no line feed, the search goes on
pub length_ahead-drop : (seen : ℕ) (bs : List ℕ) → seen ≤ length_ahead bs → length_ahead bs ≡ seen + length_ahead (drop seen bs)
length_ahead-drop zero bs h = omega arith
length_ahead-drop (suc n) [] h = absurd (omega arith)
length_ahead-drop (suc n) (b ∷ bs) h =
    elim (is_feed b) as (λ t. suc n ≤ cond (not t) (1 + length_ahead bs) 0 → cond (not t) (1 + length_ahead bs) 0 ≡ suc n + length_ahead (drop n bs)) [
      | true ↦ λ h. absurd (omega arith)
      | false ↦ λ h. omega (arith, length_ahead-drop n bs (omega arith))
    ] h

-- a byte that isn't found at a place
missed : (hay : List ℕ) (k : ℕ) → ¬ Passes (is_byte 10) hay k → is_feed (slice_index hay k) ≡ false
missed hay k apart = ⊎_elim (λ here. absurd (apart here)) (λ not_here. not_here) (cases_Bool (is_feed (slice_index hay k)))

-- what a search for a line feed says of the place of the first
pub length_ahead_found : (hay : List ℕ) (k : ℕ) → NoneBefore (Passes (is_byte 10) hay) 0 (length hay) k → Passes (is_byte 10) hay k → length_ahead hay ≡ k
length_ahead_found hay k none here = position_or_len_is is_feed hay k 0 (omega (arith, none.high))
    (λ j below. missed hay j (none.before j (omega arith) below)) (λ _. here)

pub length_ahead_missed : (hay : List ℕ) → Nowhere (Passes (is_byte 10) hay) 0 (length hay) → length_ahead hay ≡ length hay
length_ahead_missed hay none = position_or_len_is is_feed hay (length hay) 0 (omega arith) (λ j below. missed hay j (none j (omega arith) below))
    (λ past. absurd (omega arith))

-- bytes with no line feed stay without one while others come behind them
pub seen_within : (xs ys : List ℕ) → take (length xs) ys ≡ xs → length_ahead xs ≡ length xs → length xs ≤ length_ahead ys
seen_within xs ys kept none =
    let whole : ys ≡ xs ++ drop (length xs) ys = sym (take-append-drop (length xs) ys) ∙ ap (λ front. front ++ drop (length xs) ys) kept in
    rw whole (length_ahead-le xs (drop (length xs) ys) (omega arith))

-- a line feed stays where the bytes behind it go
ahead_taken : (bs : List ℕ) → length_ahead bs < length bs → length_ahead (take (suc (length_ahead bs)) bs) ≡ length_ahead bs
ahead_taken [] h = absurd (omega arith)
ahead_taken (b ∷ bs) h =
    elim (is_feed b) as (λ t. cond (not t) (1 + length_ahead bs) 0 < length (b ∷ bs)
    → cond (not t) (1 + length_ahead (take (cond (not t) (1 + length_ahead bs) 0) bs)) 0 ≡ cond (not t) (1 + length_ahead bs) 0) [
      | true ↦ λ h. refl
      | false ↦ λ h. let after : 1 + length_ahead bs ≡ suc (length_ahead bs) = omega arith in
          ap (λ n. 1 + n) (ap (λ n. length_ahead (take n bs)) after ∙ ahead_taken bs (omega arith))
    ] h

-- a line that has ended, and what stands behind it
pub lines_ended : (bs more : List ℕ) → has_feed bs ≡ true → lines (take (length_ahead bs + 1) bs ++ more) false ≡ line_ahead bs ∷ lines more false
lines_ended bs more some =
    let below = feed_below bs some in
    let front = take (length_ahead bs + 1) bs in
    let after : length_ahead bs + 1 ≡ suc (length_ahead bs) = omega arith in
    let same : length_ahead front ≡ length_ahead bs = ap (λ n. length_ahead (take n bs)) after ∙ ahead_taken bs below in
    let size : length front ≡ length_ahead bs + 1 = length-take-le (length_ahead bs + 1) bs (omega (arith, below)) in
    let within : length_ahead front < length front = omega (arith, same, size) in
    let whole : front ++ drop (length_ahead bs + 1) bs ≡ bs = take-append-drop (length_ahead bs + 1) bs in
    let past : past_line front ≡ [] = drop_all (length_ahead front + 1) front (omega (arith, same, size)) in
    lines_at_feed false (front ++ more) (omega (arith, length_ahead-append front more within, length-append front more))
    ∙ rw (line_ahead-append front more within, past_line-append front more within, past)
    (ap (λ l. l ∷ lines more false) (sym (line_ahead-append front (drop (length_ahead bs + 1) bs) within) ∙ ap line_ahead whole))

pub lines_open : (bs : List ℕ) → has_feed bs ≡ false → lines bs false ≡ []
lines_open bs none = lines_unended bs (omega (arith, no_feed_below bs none))
