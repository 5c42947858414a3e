-- The digits of a number in base 16: the last one and those before it.
use Rattle.std.proofs.Common.{◌≡◌, ℕ, zero, suc, ◌+◌, ◌/◌, ◌%◌, ◌<◌, ◌≤◌, ◌^◌, true}
use Rattle.std.proofs.Common.{false, cond, ◌==◌, List, [], ◌∷◌, ◌++◌, length, refl, sym, ap, ◌∙◌, arith}
use Rattle.std.specs.Fmt.{digits, digits_onto, digit_glyph}
use Rattle.std.proofs.Math.Nat.{pow-suc}
use Rattle.std.proofs.lemmas.Bool.Decides.{nat_tests}
use Rattle.std.proofs.lemmas.Fmt.{hex_one_digit}
use Rattle.std.proofs.lemmas.List.{append_assoc, length-append}

-- the digits of a number put before others, of which there are at most `most`
abbrev onto : ℕ → ℕ → List ℕ → List ℕ
onto most n after = digits_onto most 16 false n after

onto_split : (most n : ℕ) (after : List ℕ) → onto most n after ≡ onto most n [] ++ after
onto_split zero n after = refl
onto_split (suc most) n after =
    elim (n / 16 == 0) as (λ t. cond t (digit_glyph false (n % 16) ∷ after) (onto most (n / 16) (digit_glyph false (n % 16) ∷ after))
    ≡ cond t (digit_glyph false (n % 16) ∷ []) (onto most (n / 16) (digit_glyph false (n % 16) ∷ [])) ++ after) [
      | true ↦ refl
      | false ↦ onto_split most (n / 16) (digit_glyph false (n % 16) ∷ after)
          ∙ sym (ap (λ l. l ++ after) (onto_split most (n / 16) (digit_glyph false (n % 16) ∷ []))
          ∙ append_assoc (onto most (n / 16) []) (digit_glyph false (n % 16) ∷ []) after)
    ]

-- room for a digit that isn't there changes nothing
onto_room : (most n : ℕ) (after : List ℕ) → n < 16 ^ suc most → onto (suc (suc most)) n after ≡ onto (suc most) n after
onto_room zero n after small =
    let last : (n / 16 == 0) ≡ true = grind (arith, nat_tests) in
    ap (λ t. cond t (digit_glyph false (n % 16) ∷ after) (onto 1 (n / 16) (digit_glyph false (n % 16) ∷ after))) last
    ∙ sym (ap (λ t. cond t (digit_glyph false (n % 16) ∷ after) (onto 0 (n / 16) (digit_glyph false (n % 16) ∷ after))) last)
onto_room (suc most) n after small =
    ap (λ l. cond (n / 16 == 0) (digit_glyph false (n % 16) ∷ after) l)
    (onto_room most (n / 16) (digit_glyph false (n % 16) ∷ after) (omega (arith, pow-suc 16 (suc most))))

-- a digit alone
pub one_digit : (n : ℕ) → n < 16 → digits 16 false n ≡ digit_glyph false n ∷ []
one_digit n small = hex_one_digit false n small

pub one_length : (n : ℕ) → n < 16 → length (digits 16 false n) ≡ 1
one_length n small = ap length (one_digit n small)

-- the last digit stands behind those of a sixteenth
hex_step : (n : ℕ) → 16 ≤ n → n < 2 ^ 32 → digits 16 false n ≡ digits 16 false (n / 16) ++ digits 16 false (n % 16)
unfolding digits
hex_step n more small =
    let some : (n / 16 == 0) ≡ false = grind (arith, nat_tests) in
    let alone : digits 16 false (n % 16) ≡ digit_glyph false (n % 16) ∷ [] = one_digit (n % 16) (omega arith) in
    ap (λ t. cond t (digit_glyph false (n % 16) ∷ []) (onto 63 (n / 16) (digit_glyph false (n % 16) ∷ []))) some
    ∙ sym (onto_room 62 (n / 16) (digit_glyph false (n % 16) ∷ []) (omega arith)) ∙ onto_split 64 (n / 16) (digit_glyph false (n % 16) ∷ [])
    ∙ ap (λ ds. digits 16 false (n / 16) ++ ds) (sym alone)

pub more_length : (n : ℕ) → 16 ≤ n → n < 2 ^ 32 → length (digits 16 false (n / 16)) + 1 ≡ length (digits 16 false n)
more_length n more small =
    sym (ap length (hex_step n more small) ∙ length-append (digits 16 false (n / 16)) (digits 16 false (n % 16))
    ∙ ap (λ k. length (digits 16 false (n / 16)) + k) (one_length (n % 16) (omega arith)))

-- the same, put behind a text
pub more_put : (n : ℕ) (text most all : List ℕ) → 16 ≤ n → n < 2 ^ 32 → most ≡ text ++ digits 16 false (n / 16)
    → all ≡ most ++ digits 16 false (n % 16)
    → all ≡ text ++ digits 16 false n
more_put n text most all more small first last =
    last ∙ ap (λ ds. ds ++ digits 16 false (n % 16)) first ∙ append_assoc text (digits 16 false (n / 16)) (digits 16 false (n % 16))
    ∙ sym (ap (λ ds. text ++ ds) (hex_step n more small))
