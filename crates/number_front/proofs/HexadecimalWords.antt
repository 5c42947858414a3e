-- Four hexadecimal digits of a word, all tested at once.
use Rattle.std.proofs.Common.{◌≡◌, ℕ, zero, suc, ◌+◌, ◌-◌, ◌*◌, ◌/◌, ◌%◌, ◌<◌, ◌≤◌, ◌&&◌, true, false, nat_lt, bit_and, List, ◌∷◌, ap, sym, ◌∙◌}
use Rattle.std.proofs.Common.{arith}
use Rattle.std.specs.Int.{bit_at}
use Rattle.std.specs.Char.{is_digit, digit_value}
use Rattle.std.specs.List.{list_all}
use Rattle.std.proofs.lemmas.Nat.{same_from_place}
use Rattle.std.proofs.lemmas.Nat.Bits.{and_pow}
use Rattle.std.proofs.lemmas.Bool.Decides.{nat_tests}
use Rattle.number_front.specs.Fronts.{AreHexadecimal, four_of}
use Rattle.number_front.proofs.PrintedWords.{AreBytes, and_four, bytes_in, low_bytes, two_of_three}

-- a decimal digit, or a letter from a to f
hex_small : (b a : ℕ) → a ≤ 9 → b ≡ a + 48 → digit_value b ≡ a
hex_small b a few is =
    let e48 : nat_lt b 48 ≡ false = grind (arith, nat_tests) in
    let e58 : nat_lt b 58 ≡ true = grind (arith, nat_tests) in
    rw (e48, e58) (omega (arith, is))

hex_letter : (b a : ℕ) → a ≤ 5 → b ≡ a + 97 → digit_value b ≡ a + 10
hex_letter b a few is =
    let e48 : nat_lt b 48 ≡ false = grind (arith, nat_tests) in
    let e58 : nat_lt b 58 ≡ false = grind (arith, nat_tests) in
    let e65 : nat_lt b 65 ≡ false = grind (arith, nat_tests) in
    let e91 : nat_lt b 91 ≡ false = grind (arith, nat_tests) in
    let e97 : nat_lt b 97 ≡ false = grind (arith, nat_tests) in
    let e123 : nat_lt b 123 ≡ true = grind (arith, nat_tests) in
    rw (e48, e58, e65, e91, e97, e123) (omega (arith, is))

hex_value : (b a m : ℕ) → m ≤ 1 → a + 4 * m ≤ 9 → b ≡ a + 48 + 49 * m → digit_value b ≡ a + 10 * m
hex_value b a zero one few is = hex_small b a (omega (arith, few)) (omega (arith, is)) ∙ omega arith
hex_value b a (suc zero) one few is = hex_letter b a (omega (arith, few)) (omega (arith, is))
hex_value b a (suc (suc m)) one few is = absurd (omega (arith, one))

hex_digit : (b a m : ℕ) → m ≤ 1 → a + 4 * m ≤ 9 → digit_value b ≡ a + 10 * m → is_digit b 16 ≡ true
hex_digit b a m one few is = let small : digit_value b < 16 = omega (arith, one, few, is) in grind (arith, nat_tests)

-- the bit of a letter
letter_bit : (b : ℕ) → (bit_and b 64 ≡ bit_at b 6 * 64) × (bit_at b 6 ≤ 1)
letter_bit b = let e : bit_and b 64 ≡ bit_at b 6 * 64 = and_pow b 6 in let one : b / 64 % 2 ≤ 1 = omega arith in (e, one)

letters_are : (p q r s w : ℕ) → AreBytes p q r s → w ≡ four_of p q r s
    → bit_and w 1077952576 / 64 ≡ four_of (bit_at p 6) (bit_at q 6) (bit_at r 6) (bit_at s 6)
letters_are p q r s w bytes is =
    let masked = ap (λ v. bit_and v 1077952576) is ∙ and_four p q r s 64 64 64 64 bytes (omega arith, omega arith, omega arith, omega arith) in
    omega (
      arith,
      masked,
      (letter_bit p).0,
      (letter_bit q).0,
      (letter_bit r).0,
      (letter_bit s).0,
      (letter_bit p).1,
      (letter_bit q).1,
      (letter_bit r).1,
      (letter_bit s).1,
    )

-- pairs of digits, and one of both pairs
pairs_are : (a b c d v : ℕ) → (a ≤ 15) × (b ≤ 15) × (c ≤ 15) × (d ≤ 15) → v ≡ four_of a b c d
    → v * 4097 % 4294967296 / 256 ≡ four_of (16 * a + b) (16 * b + c) (16 * c + d) 0
pairs_are a b c d v small is = omega (arith, is, small)

number_is : (a b c d v : ℕ) → (a ≤ 15) × (b ≤ 15) × (c ≤ 15) × (d ≤ 15) → v ≡ four_of a b c d
    → bit_and (v * 4097 % 4294967296 / 256) 16711935 * 16777217 % 4294967296 / 65536 ≡ ((a * 16 + b) * 16 + c) * 16 + d
number_is a b c d v small is =
    let masked = ap (λ w. bit_and w 16711935) (pairs_are a b c d v small is)
    ∙ two_of_three (16 * a + b) (16 * b + c) (16 * c + d) (omega (arith, small)) (omega (arith, small)) (omega (arith, small)) in
    omega (arith, masked, small)

-- a word less zeros and letters, whose bytes are small
abbrev pub less_letters : ℕ → ℕ → ℕ
less_letters w m = ((w + 3486502864) % 4294967296 + (4294967296 - m * 49)) % 4294967296

pub four_are : (p q r s w : ℕ) → AreBytes p q r s → w ≡ four_of p q r s
    → let m = bit_and w 1077952576 / 64 in let v = less_letters w m in
    bit_and v 2155905152 ≡ 0 → bit_and ((v + (1987475062 + 4 * m)) % 4294967296) 2155905152 ≡ 0
    → AreHexadecimal p q r s (bit_and ((v + 10 * m) % 4294967296 * 4097 % 4294967296 / 256) 16711935 * 16777217 % 4294967296 / 65536)
four_are p q r s w bytes is none more =
    let m = bit_and w 1077952576 / 64 in
    let v = less_letters w m in
    let mp = bit_at p 6 in
    let mq = bit_at q 6 in
    let mr = bit_at r 6 in
    let ms = bit_at s 6 in
    let one : (mp ≤ 1) × (mq ≤ 1) × (mr ≤ 1) × (ms ≤ 1) = ((letter_bit p).1, (letter_bit q).1, (letter_bit r).1, (letter_bit s).1) in
    let ls : m ≡ four_of mp mq mr ms = letters_are p q r s w bytes is in
    let parts = bytes_in v (omega arith) in
    let a = v % 256 in
    let b = v / 256 % 256 in
    let c = v / 65536 % 256 in
    let d = v / 16777216 in
    let low = low_bytes a b c d parts.0 (ap (λ x. bit_and x 2155905152) (sym parts.1) ∙ none) in
    let sum : (v + (1987475062 + 4 * m)) % 4294967296 ≡ four_of (a + 118 + 4 * mp) (b + 118 + 4 * mq) (c + 118 + 4 * mr) (d + 118 + 4 * ms) =
    omega (arith, low, parts.1, ls, one) in
    let tops = low_bytes (a + 118 + 4 * mp) (b + 118 + 4 * mq) (c + 118 + 4 * mr) (d + 118 + 4 * ms)
    (omega (arith, low, one), omega (arith, low, one), omega (arith, low, one), omega (arith, low, one)) (ap (λ x. bit_and x 2155905152) (sym sum) ∙ more) in
    let few : (a + 4 * mp ≤ 9) × (b + 4 * mq ≤ 9) × (c + 4 * mr ≤ 9) × (d + 4 * ms ≤ 9) =
    (omega (arith, tops), omega (arith, tops), omega (arith, tops), omega (arith, tops)) in
    let whole : four_of p q r s ≡ four_of (a + 48 + 49 * mp) (b + 48 + 49 * mq) (c + 48 + 49 * mr) (d + 48 + 49 * ms) =
    omega (arith, is, parts.1, ls, one, few, bytes) in
    let w_a = same_from_place ((s * 256 + r) * 256 + q) p _ (a + 48 + 49 * mp) 256 bytes.0 (omega (arith, few, one)) whole in
    let w_b = same_from_place (s * 256 + r) q _ (b + 48 + 49 * mq) 256 bytes.1 (omega (arith, few, one)) w_a.0 in
    let w_c = same_from_place s r (d + 48 + 49 * ms) (c + 48 + 49 * mr) 256 bytes.2 (omega (arith, few, one)) w_b.0 in
    let va = hex_value p a mp one.0 few.0 w_a.1 in
    let vb = hex_value q b mq one.1 few.1 w_b.1 in
    let vc = hex_value r c mr one.2 few.2 w_c.1 in
    let vd = hex_value s d ms one.3 few.3 w_c.0 in
    let digits : (v + 10 * m) % 4294967296 ≡ four_of (a + 10 * mp) (b + 10 * mq) (c + 10 * mr) (d + 10 * ms) = omega (arith, parts.1, ls, one, few) in
    record {
      first = hex_digit p a mp one.0 few.0 va;
      second = hex_digit q b mq one.1 few.1 vb;
      third = hex_digit r c mr one.2 few.2 vc;
      fourth = hex_digit s d ms one.3 few.3 vd;
      value = number_is (a + 10 * mp) (b + 10 * mq) (c + 10 * mr) (d + 10 * ms) ((v + 10 * m) % 4294967296)
          (omega (arith, one, few), omega (arith, one, few), omega (arith, one, few), omega (arith, one, few)) digits
          ∙ omega (arith, va, vb, vc, vd);
    }

one_more : (d : ℕ) (ds : List ℕ) → is_digit d 16 ≡ true → list_all (λ b. is_digit b 16) ds ≡ true → list_all (λ b. is_digit b 16) (d ∷ ds) ≡ true
one_more d ds digit all = ap (λ t. t && list_all (λ b. is_digit b 16) ds) digit ∙ all

pub four_more : (p q r s n : ℕ) (ds : List ℕ) → AreHexadecimal p q r s n → list_all (λ b. is_digit b 16) ds ≡ true
    → list_all (λ b. is_digit b 16) (p ∷ q ∷ r ∷ s ∷ ds) ≡ true
four_more p q r s n ds h all =
    one_more p (q ∷ r ∷ s ∷ ds) h.first (one_more q (r ∷ s ∷ ds) h.second (one_more r (s ∷ ds) h.third (one_more s ds h.fourth all)))
