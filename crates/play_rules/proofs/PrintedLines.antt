-- A printed line is read as it was printed.
use Rattle.std.proofs.Common.{◌≡◌, ℕ, ◌-◌, ◌≤◌, ◌<◌, true, false, cond, ◌==◌, List, [], ◌∷◌, ◌++◌, length, take}
use Rattle.std.proofs.Common.{slice_index, Ok, refl, ap, ◌∙◌, arith}
use Rattle.std.specs.List.{All, slice_split}
use Rattle.std.specs.Str.Lines.{strip_carriage_return}
use Rattle.std.proofs.lemmas.Bool.Decides.{nat_tests}
use Rattle.std.proofs.lemmas.List.{append_assoc}
use Rattle.std.proofs.lemmas.List.Elements.{All-weaker}
use Rattle.std.proofs.lemmas.List.Splits.{slice_split_at, length-slice_split}
use Rattle.scene_lines.specs.SceneLines.{lines, lines_of, is_feed}
use Rattle.scene_lines.specs.declared.TheConstants.{LONGEST_LINE}
use Rattle.scene_words.specs.declared.command.Command.{Command}
use Rattle.scene_words.specs.declared.version.Version.{Version}
use Rattle.scene_words.specs.Printed.{printed, line_of}
use Rattle.scene_words.specs.SceneWords.{command}

-- what is known of a printed command that a version has
pub record IsLegible (version : Version) (c : Command) : Type 0 where
  pub back : command version (printed c) ≡ Ok c
  pub visible : All (λ b. 32 ≤ b) (printed c)
  pub short : length (printed c) ≤ LONGEST_LINE

no_feed : (b : ℕ) → 32 ≤ b → is_feed b ≡ false
no_feed b h = grind (arith, nat_tests)

-- a line of visible bytes has no carriage return at its end
kept_whole : (line : List ℕ) → All (λ b. 32 ≤ b) line → strip_carriage_return line ≡ line
kept_whole [] h = refl
kept_whole (b ∷ bs) h =
    let last : 32 ≤ slice_index (b ∷ bs) (length (b ∷ bs) - 1) = h (length (b ∷ bs) - 1) 0 (omega arith) in
    let no : (slice_index (b ∷ bs) (length (b ∷ bs) - 1) == 13) ≡ false = grind (arith, nat_tests) in
    ap (λ t. cond t (take (length (b ∷ bs) - 1) (b ∷ bs)) (b ∷ bs)) no

-- a piece before others is a line
before_pieces : (line : List ℕ) (pieces : List (List ℕ)) → 0 < length pieces
    → lines_of true (line ∷ pieces) ≡ strip_carriage_return line ∷ lines_of true pieces
before_pieces line [] h = absurd (omega (arith, h))
before_pieces line (piece ∷ more) h = refl

line_read : (line rest : List ℕ) → All (λ b. 32 ≤ b) line → lines ((line ++ 10 ∷ []) ++ rest) true ≡ line ∷ lines rest true
line_read line rest h =
    let plain = All-weaker (λ b. 32 ≤ b) (λ b. is_feed b ≡ false) no_feed line h in
    ap (λ bytes. lines bytes true) (append_assoc line (10 ∷ []) rest) ∙ ap (lines_of true) (slice_split_at is_feed line 10 rest plain refl)
    ∙ before_pieces line (slice_split is_feed rest) (omega (arith, length-slice_split is_feed rest))
    ∙ ap (λ l. l ∷ lines rest true) (kept_whole line h)

pub first_read : (c : Command) (rest : List ℕ) → All (λ b. 32 ≤ b) (printed c) → lines (line_of c ++ rest) true ≡ printed c ∷ lines rest true
unfolding line_of
first_read c rest visible = line_read (printed c) rest visible
