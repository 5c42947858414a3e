-- The text of a raw number, put piece by piece.
use Rattle.std.proofs.Common.{◌≡◌, ℕ, zero, suc, ◌+◌, ◌-◌, ◌/◌, ◌%◌, ◌^◌, ◌<◌, ◌≤◌, List, [], ◌∷◌, length, decimal, refl}
use Rattle.std.proofs.Common.{sym, ap, subst, ◌∙◌, arith}
use Rattle.std.proofs.lemmas.List.{length_push}
use Rattle.std.proofs.lemmas.Fmt.{decimal_step, length-decimal-le}
use Rattle.fixed_box.specs.Fix.{show_magnitude, last_digits, hundred_thousandths}
use Rattle.fixed_box.specs.Puts.{Puts}
use Rattle.fixed_box.proofs.PutsThen.{puts_then}

pub length-last_digits : (count n : ℕ) → length (last_digits count n) ≡ count
length-last_digits zero n = refl
length-last_digits (suc count) n = length_push (last_digits count (n / 10)) (48 + n % 10) ∙ omega (arith, length-last_digits count (n / 10))

pub length_decimal_step : (n : ℕ) → 10 ≤ n → n < 2 ^ 64 → length (decimal n) ≡ length (decimal (n / 10)) + 1
length_decimal_step n more small = ap length (decimal_step n more small) ∙ length_push (decimal (n / 10)) (48 + n % 10)

pub puts_decimal : (a b c : List ℕ) (i j k n : ℕ) → 10 ≤ n → n < 2 ^ 64 → Puts a b i j (decimal (n / 10)) → Puts b c j k ((48 + n % 10) ∷ [])
    → Puts a c i k (decimal n)
puts_decimal a b c i j k n more small first last = let P : List ℕ → Type 0 = λ ds. Puts a c i k ds in
    subst P (sym (decimal_step n more small)) (puts_then a b c i j k _ _ first last)

pub puts_last_digits : (a b c : List ℕ) (i j k count n : ℕ) → (count ≡ 0 → ⊥) → Puts a b i j (last_digits (count - 1) (n / 10))
    → Puts b c j k ((48 + n % 10) ∷ []) → Puts a c i k (last_digits count n)
puts_last_digits a b c i j k zero n some first last = absurd (some refl)
puts_last_digits a b c i j k (suc m) n some first last =
    let less : suc m - 1 ≡ m = omega arith in
    let P : ℕ → Type 0 = λ count. Puts a b i j (last_digits count (n / 10)) in
    puts_then a b c i j k _ _ (subst P less first) last

pub units_small : (a : ℕ) → a ≤ 2 ^ 31 → hundred_thousandths a / 100000 < 10 ^ 5
units_small a small = omega arith

pub length_units : (a : ℕ) → a ≤ 2 ^ 31 → length (decimal (hundred_thousandths a / 100000)) ≤ 5
length_units a small = length-decimal-le 5 (hundred_thousandths a / 100000) (omega arith) (units_small a small) (omega (arith, units_small a small))

pub puts_magnitude : (a b c d : List ℕ) (i j k l q : ℕ) → Puts a b i j (decimal (q / 100000)) → Puts b c j k (46 ∷ [])
    → Puts c d k l (last_digits 5 (q % 100000)) → Puts a d i l (show_magnitude q)
puts_magnitude a b c d i j k l q units point fraction = puts_then a b d i j l _ _ units (puts_then b c d j k l _ _ point fraction)
