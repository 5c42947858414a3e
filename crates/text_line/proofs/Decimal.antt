-- Decimal digits, written one or two at a time.
use Rattle.std.proofs.Common.{◌≡◌, ℕ, zero, suc, ◌+◌, ◌-◌, ◌*◌, ◌/◌, ◌%◌, ◌<◌, ◌≤◌, Bool, true, ◌&&◌, T, List, [], ◌∷◌, ◌++◌, length, take, decimal}
use Rattle.std.proofs.Common.{eqb, get_or, slice_set, sym, ap, ◌∙◌, arith, add-one, append_assoc, inl, inr, eq-zero-or-pos, eqb→eq}
use Rattle.std.proofs.Math.Seq.{take-suc-set}
use Rattle.std.proofs.lemmas.Fmt.{decimal_step, decimal_digit}
use Rattle.std.proofs.lemmas.List.{length-set}
use lib.Ieee.Fits.{and_l, and_r}
use Rattle.text_line.specs.declared.digits.TheConstants.{PAIRS}

-- one digit, stored at a place
pub digit_put : (bytes : List ℕ) (at n : ℕ) → n < 10 → at < length bytes → take (at + 1) (slice_set bytes at (48 + n)) ≡ take at bytes ++ decimal n
digit_put bytes at n small within =
    ap (λ k. take k (slice_set bytes at (48 + n))) (add-one at) ∙ take-suc-set bytes at (48 + n) within
    ∙ ap (λ ds. take at bytes ++ ds) (sym (decimal_digit n small))

-- the two digits of a number below 100
abbrev pub both : ℕ → List ℕ
both n = (48 + n / 10) ∷ (48 + n % 10) ∷ []

-- two digits, stored at a place and at the next one
pub both_put : (bytes : List ℕ) (at n x y : ℕ) → x ≡ 48 + n / 10 → y ≡ 48 + n % 10 → at + 2 ≤ length bytes
    → take (at + 2) (slice_set (slice_set bytes at x) (at + 1) y) ≡ take at bytes ++ both n
both_put bytes at n x y tens ones within =
    let first : take (at + 1) (slice_set bytes at x) ≡ take at bytes ++ x ∷ [] =
    ap (λ k. take k (slice_set bytes at x)) (add-one at) ∙ take-suc-set bytes at x (omega arith) in
    let next : at + 2 ≡ suc (at + 1) = omega arith in
    ap (λ k. take k (slice_set (slice_set bytes at x) (at + 1) y)) next
    ∙ take-suc-set (slice_set bytes at x) (at + 1) y (omega (arith, length-set bytes at x))
    ∙ ap (λ l. l ++ y ∷ []) first ∙ append_assoc (take at bytes) (x ∷ []) (y ∷ [])
    ∙ ap (λ k. take at bytes ++ k ∷ y ∷ []) tens ∙ ap (λ k. take at bytes ++ (48 + n / 10) ∷ k ∷ []) ones

-- the table has both digits of each number below some bound
abbrev are_both : ℕ → Bool
are_both zero = true
are_both (suc n) = (eqb (get_or PAIRS (n * 2) 0) (48 + n / 10) && eqb (get_or PAIRS (n * 2 + 1) 0) (48 + n % 10)) && are_both n

both_below : (bound n : ℕ) → T (are_both bound) → n < bound → (get_or PAIRS (n * 2) 0 ≡ 48 + n / 10) × (get_or PAIRS (n * 2 + 1) 0 ≡ 48 + n % 10)
both_below zero n t h = absurd (omega arith)
both_below (suc bound) n t h =
    elim (eq-zero-or-pos (bound - n)) [
      | inl last ↦
          let here : n ≡ bound = omega arith in
          let found = and_l _ (are_both bound) t in
          rw here (eqb→eq _ _ (and_l _ _ found), eqb→eq _ _ (and_r _ _ found))
      | inr before ↦ both_below bound n (and_r _ (are_both bound) t) (omega arith)
    ]

pub both_at : (n : ℕ) → n < 100 → (get_or PAIRS (n * 2) 0 ≡ 48 + n / 10) × (get_or PAIRS (n * 2 + 1) 0 ≡ 48 + n % 10)
both_at n small = both_below 100 n tt small

-- a number of two digits
pub two_put : (old new : List ℕ) (n : ℕ) → 10 ≤ n → n < 100 → new ≡ old ++ both n → new ≡ old ++ decimal n
two_put old new n some few last =
    last ∙ ap (λ ds. old ++ ds) (sym (decimal_step n some (omega arith) ∙ ap (λ ds. ds ++ (48 + n % 10) ∷ []) (decimal_digit (n / 10) (omega arith))))

-- the last two digits of a number stand behind those of a hundredth
decimal_pair : (n : ℕ) → 100 ≤ n → n < 10000 → decimal n ≡ decimal (n / 100) ++ both (n % 100)
decimal_pair n some few =
    let hundredth : n / 10 / 10 ≡ n / 100 = omega arith in
    let tens : n / 10 % 10 ≡ n % 100 / 10 = omega arith in
    let ones : n % 10 ≡ n % 100 % 10 = omega arith in
    decimal_step n (omega arith) (omega arith) ∙ ap (λ ds. ds ++ (48 + n % 10) ∷ []) (decimal_step (n / 10) (omega arith) (omega arith))
    ∙ append_assoc (decimal (n / 10 / 10)) ((48 + n / 10 % 10) ∷ []) ((48 + n % 10) ∷ [])
    ∙ ap (λ k. decimal k ++ (48 + n / 10 % 10) ∷ (48 + n % 10) ∷ []) hundredth
    ∙ ap (λ k. decimal (n / 100) ++ (48 + k) ∷ (48 + n % 10) ∷ []) tens ∙ ap (λ k. decimal (n / 100) ++ (48 + n % 100 / 10) ∷ (48 + k) ∷ []) ones

pub pair_more : (old mid new : List ℕ) (n : ℕ) → 100 ≤ n → n < 10000 → mid ≡ old ++ decimal (n / 100) → new ≡ mid ++ both (n % 100) → new ≡ old ++ decimal n
pair_more old mid new n some few first last =
    last ∙ ap (λ ds. ds ++ both (n % 100)) first ∙ append_assoc old (decimal (n / 100)) (both (n % 100))
    ∙ ap (λ ds. old ++ ds) (sym (decimal_pair n some few))
