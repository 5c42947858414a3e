-- A text cut at the first byte that passes a test.
use Rattle.std.proofs.Common.{◌≡◌, ℕ, ◌+◌, Bool, false, List, [], ◌∷◌, length, take, drop, slice_index, sym, ap, ◌∙◌, arith, ⊎_elim}
use Rattle.std.specs.List.{slice_split, position_or_len, before_first, after_first}
use Rattle.std.proofs.lemmas.Bool.{cases_Bool}
use Rattle.std.proofs.lemmas.List.{take_all, drop_all, drop-drop}
use Rattle.std.proofs.lemmas.List.Elements.{All-from_get_or}
use Rattle.std.proofs.lemmas.List.Splits.{slice_split_first, slice_split_none}
use Rattle.std.proofs.lemmas.List.Sums.{position_or_len_is}
use Rattle.memchr.specs.Find.{NoneBefore, Nowhere, Passes}

failing : (p : ℕ → Bool) (text : List ℕ) (k : ℕ) → ¬ Passes p text k → p (slice_index text k) ≡ false
failing p text k apart = ⊎_elim (λ here. absurd (apart here)) (λ not_here. not_here) (cases_Bool (p (slice_index text k)))

-- the place that a search finds, and the one that it gives where none is found
place_found : (p : ℕ → Bool) (text : List ℕ) (k : ℕ) → NoneBefore (Passes p text) 0 (length text) k → Passes p text k → position_or_len p text ≡ k
place_found p text k none here = position_or_len_is p text k 0 (omega (arith, none.high))
    (λ j below. failing p text j (none.before j (omega arith) below)) (λ _. here)

place_missed : (p : ℕ → Bool) (text : List ℕ) → Nowhere (Passes p text) 0 (length text) → position_or_len p text ≡ length text
place_missed p text none = position_or_len_is p text (length text) 0 (omega arith)
    (λ j below. failing p text j (none j (omega arith) below)) (λ past. absurd (omega arith))

-- a text in which nothing passes
pub record IsUncut (p : ℕ → Bool) (text : List ℕ) : Type 0 where
  pub before : text ≡ before_first p text
  pub after : after_first p text ≡ []
  pub pieces : slice_split p text ≡ text ∷ []

pub uncut : (p : ℕ → Bool) (text : List ℕ) → Nowhere (Passes p text) 0 (length text) → IsUncut p text
uncut p text none =
    let place = place_missed p text none in
    record {
      before = sym (take_all (position_or_len p text) text (omega (arith, place)));
      after = drop_all (position_or_len p text + 1) text (omega (arith, place));
      pieces = slice_split_none p text (All-from_get_or (λ b. p b ≡ false) text 0 (λ j below. failing p text j (none j (omega arith) below)));
    }

-- a text cut at the first byte that passes
pub record IsCut (p : ℕ → Bool) (text line rest : List ℕ) : Type 0 where
  pub before : line ≡ before_first p text
  pub after : rest ≡ after_first p text
  pub pieces : slice_split p text ≡ line ∷ slice_split p rest

pub cut_at : (p : ℕ → Bool) (text before rest after : List ℕ) (k : ℕ) → NoneBefore (Passes p text) 0 (length text) k → Passes p text k
    → before ≡ take k text → rest ≡ drop k text → after ≡ drop 1 rest → IsCut p text before after
cut_at p text before rest after k none here front back tail =
    let place : position_or_len p text ≡ k = place_found p text k none here in
    let is_before : before ≡ before_first p text = front ∙ ap (λ n. take n text) (sym place) in
    let is_after : after ≡ after_first p text = tail ∙ ap (drop 1) back ∙ drop-drop 1 k text ∙ ap (λ n. drop (n + 1) text) (sym place) in
    record {
      before = is_before;
      after = is_after;
      pieces = slice_split_first p text 0 (omega (arith, place, none.high))
          ∙ ap (λ line. line ∷ slice_split p (after_first p text)) (sym is_before) ∙ ap (λ more. before ∷ slice_split p more) (sym is_after);
    }
