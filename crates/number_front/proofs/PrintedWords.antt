-- Four bytes of a word, all tested at once.
use Rattle.std.proofs.Common.{◌≡◌, ℕ, zero, suc, ◌+◌, ◌*◌, ◌/◌, ◌%◌, ◌^◌, ◌<◌, ◌≤◌, ◌&&◌, true, bit_and, List, length, take, drop, get_or, ap, ◌∙◌}
use Rattle.std.proofs.Common.{sym, subst, arith, refl, [], ◌∷◌, w64, ⊎_elim}
use Rattle.std.specs.Int.{bit_at, trailing_zeros}
use Rattle.std.specs.Char.{is_ascii_digit, digit_value}
use Rattle.std.specs.Str.{all_ascii_digits}
use Rattle.std.specs.Str.Parse.{digits_value}
use Rattle.std.proofs.Math.Seq.{drop-cons}
use Rattle.std.proofs.lemmas.Nat.{and_block, and_le_r, same_from_place}
use Rattle.std.proofs.lemmas.Nat.Bits.{and_pow, bit_at-trailing_zeros, bit_at_cat_low, bit_at-zero}
use Rattle.std.proofs.lemmas.Bool.{cases_lt}
use Rattle.std.proofs.lemmas.Bool.Decides.{nat_tests}
use Rattle.std.proofs.lemmas.Grind.{and_high_numeral}
use Rattle.number_front.specs.Fronts.{AreDigits, IsMagnitude, four_of, values_of, aligned}
use Rattle.fixed_box.specs.DigitLaws.{digit_value_is}
use Rattle.number_front.proofs.FrontNumbers.{printed_text}
use Rattle.fixed_box.proofs.Lists.{drop_none}

-- four bytes
abbrev pub AreBytes : (a b c d : ℕ) → Type 0
AreBytes a b c d = (a < 256) × (b < 256) × (c < 256) × (d < 256)

-- the bits of a mask, byte by byte
pub and_four : (a b c d m n o p : ℕ) → AreBytes a b c d → AreBytes m n o p
    → bit_and (four_of a b c d) (four_of m n o p) ≡ four_of (bit_and a m) (bit_and b n) (bit_and c o) (bit_and d p)
and_four a b c d m n o p x y =
    and_block 8 ((d * 256 + c) * 256 + b) ((p * 256 + o) * 256 + n) a m x.0 y.0
    ∙ ap (λ w. w * 256 + bit_and a m) (and_block 8 (d * 256 + c) (p * 256 + o) b n x.1 y.1
    ∙ ap (λ w. w * 256 + bit_and b n) (and_block 8 d p c o x.2 y.2))

-- each word has four bytes
pub bytes_in : (w : ℕ) → w < 4294967296 → let a = w % 256 in let b = w / 256 % 256 in let c = w / 65536 % 256 in let d = w / 16777216 in
    AreBytes a b c d × (w ≡ four_of a b c d)
bytes_in w small = ((omega arith, omega arith, omega arith, omega arith), omega arith)

-- a byte without its highest bit
below_high : (b : ℕ) → b < 256 → bit_and b 128 ≡ 0 → b < 128
below_high b small e = let h : bit_and b 128 + b % 128 ≡ b = and_high_numeral b 127 refl small in omega (arith, h, e)

pub low_bytes : (a b c d : ℕ) → AreBytes a b c d → bit_and (four_of a b c d) 2155905152 ≡ 0 → (a < 128) × (b < 128) × (c < 128) × (d < 128)
low_bytes a b c d bytes none =
    let e = sym (and_four a b c d 128 128 128 128 bytes (omega arith, omega arith, omega arith, omega arith)) ∙ none in (
      below_high a bytes.0 (omega (arith, e)),
      below_high b bytes.1 (omega (arith, e)),
      below_high c bytes.2 (omega (arith, e)),
      below_high d bytes.3 (omega (arith, e)),
    )

pub tested_digits : (v : ℕ) → v < 4294967296 → bit_and v 2155905152 ≡ 0 → bit_and ((v + 1987475062) % 4294967296) 2155905152 ≡ 0 → AreDigits v
tested_digits v small none more =
    let parts = bytes_in v small in
    let a = v % 256 in
    let b = v / 256 % 256 in
    let c = v / 65536 % 256 in
    let d = v / 16777216 in
    let low = low_bytes a b c d parts.0 (ap (λ w. bit_and w 2155905152) (sym parts.1) ∙ none) in
    let sum : (v + 1987475062) % 4294967296 ≡ four_of (a + 118) (b + 118) (c + 118) (d + 118) = omega (arith, low, parts.1) in
    let tops = low_bytes (a + 118) (b + 118) (c + 118) (d + 118) (omega (arith, low), omega (arith, low), omega (arith, low), omega (arith, low))
    (ap (λ w. bit_and w 2155905152) (sym sum) ∙ more) in record {
      a = a;
      b = b;
      c = c;
      d = d;
      small = (omega (arith, tops), omega (arith, tops), omega (arith, tops), omega (arith, tops));
      is = parts.1;
    }

-- sums of neighbours, and the pairs among them
pairs_are : (a b c d v : ℕ) → (a ≤ 9) × (b ≤ 9) × (c ≤ 9) × (d ≤ 9) → v ≡ four_of a b c d
    → v * 2561 % 4294967296 / 256 ≡ four_of (10 * a + b) (10 * b + c) (10 * c + d) 0
pairs_are a b c d v small is = omega (arith, is, small)

whole_byte : (b : ℕ) → b < 256 → bit_and b 255 ≡ b
whole_byte b small = let h : bit_and b 255 + b % 1 ≡ b = and_high_numeral b 254 refl small in omega (arith, h)

-- of three bytes the first and the third
pub two_of_three : (p q r : ℕ) → p < 256 → q < 256 → r < 256 → bit_and (four_of p q r 0) 16711935 ≡ four_of p 0 r 0
two_of_three p q r lp lq lr =
    let none : bit_and q 0 ≡ 0 = omega (arith, and_le_r q 0) in
    let none_d : bit_and 0 0 ≡ 0 = omega (arith, and_le_r 0 0) in
    and_four p q r 0 255 0 255 0 (lp, lq, lr, omega arith) (omega arith, omega arith, omega arith, omega arith)
    ∙ omega (arith, whole_byte p lp, whole_byte r lr, none, none_d)

pub number_is : (a b c d v : ℕ) → (a ≤ 9) × (b ≤ 9) × (c ≤ 9) × (d ≤ 9) → v ≡ four_of a b c d
    → bit_and (v * 2561 % 4294967296 / 256) 16711935 * 6553601 % 4294967296 / 65536 ≡ ((a * 10 + b) * 10 + c) * 10 + d
number_is a b c d v small is =
    let masked = ap (λ w. bit_and w 16711935) (pairs_are a b c d v small is)
    ∙ two_of_three (10 * a + b) (10 * b + c) (10 * c + d) (omega (arith, small)) (omega (arith, small)) (omega (arith, small)) in
    omega (arith, masked, small)

pub number_below : (v : ℕ) → AreDigits v → bit_and (v * 2561 % 4294967296 / 256) 16711935 * 6553601 % 4294967296 / 65536 ≤ 9999
number_below v h = omega (arith, number_is h.a h.b h.c h.d v h.small h.is, h.small)

-- the lowest bit that is set
abbrev pub IsLowest : ℕ → ℕ → Type 0
IsLowest m z = (bit_at m z ≡ 1) × ((i : ℕ) → i < z → bit_at m i ≡ 0)

no_less : (q j m z : ℕ) → m ≡ q * 2 ^ j + 0 → bit_at m z ≡ 1 → j ≤ z
no_less q j m z is set = ⊎_elim (λ less. absurd (omega (arith, none less, set))) (λ more. more) (cases_lt z j)
  where
    none : z < j → bit_at m z ≡ 0
    none less = ap (λ n. bit_at n z) is ∙ bit_at_cat_low q j 0 z less ∙ bit_at-zero z

no_more : (j m z : ℕ) → bit_at m j ≡ 1 → ((i : ℕ) → i < z → bit_at m i ≡ 0) → z ≤ j
no_more j m z set low = ⊎_elim (λ less. absurd (omega (arith, low j less, set))) (λ more. more) (cases_lt j z)

-- it stands in the second byte to the fifth, where each of them has one bit at most, and the fifth has it
abbrev pub IsPlace : ℕ → Type 0
IsPlace z = (k : ℕ) × (1 ≤ k) × (k ≤ 4) × (z ≡ 8 * k + 4)

place_of : (p q r m z : ℕ) → p ≤ 1 → q ≤ 1 → r ≤ 1 → m ≡ 4096 * (p + 256 * q + 65536 * r + 16777216) → IsLowest m z → IsPlace z
place_of (suc zero) q r m z sp sq sr is low =
    let set : bit_at m 12 ≡ 1 = (let e : m / 4096 % 2 ≡ 1 = omega (arith, is) in e) in
    let more : z ≤ 12 = no_more 12 m z set low.1 in
    let less : 12 ≤ z = no_less (1 + 256 * q + 65536 * r + 16777216) 12 m z (omega (arith, is)) low.0 in
    (1, omega arith, omega arith, omega (arith, more, less))
place_of zero (suc zero) r m z sp sq sr is low =
    let set : bit_at m 20 ≡ 1 = (let e : m / 1048576 % 2 ≡ 1 = omega (arith, is) in e) in
    let more : z ≤ 20 = no_more 20 m z set low.1 in
    let less : 20 ≤ z = no_less (1 + 256 * r + 65536) 20 m z (omega (arith, is)) low.0 in
    (2, omega arith, omega arith, omega (arith, more, less))
place_of zero zero (suc zero) m z sp sq sr is low =
    let set : bit_at m 28 ≡ 1 = (let e : m / 268435456 % 2 ≡ 1 = omega (arith, is) in e) in
    let more : z ≤ 28 = no_more 28 m z set low.1 in
    let less : 28 ≤ z = no_less 257 28 m z (omega (arith, is)) low.0 in
    (3, omega arith, omega arith, omega (arith, more, less))
place_of zero zero zero m z sp sq sr is low =
    let set : bit_at m 36 ≡ 1 = (let e : m / 68719476736 % 2 ≡ 1 = omega (arith, is) in e) in
    let more : z ≤ 36 = no_more 36 m z set low.1 in
    let less : 36 ≤ z = no_less 1 36 m z (omega (arith, is)) low.0 in
    (4, omega arith, omega arith, omega (arith, more, less))
place_of (suc (suc p)) q r m z sp sq sr is low = absurd (omega (arith, sp))
place_of zero (suc (suc q)) r m z sp sq sr is low = absurd (omega (arith, sq))
place_of zero zero (suc (suc r)) m z sp sq sr is low = absurd (omega (arith, sr))

-- one bit of a byte
bit_four : (b : ℕ) → (bit_and b 16 ≡ bit_at b 4 * 16) × (bit_at b 4 ≤ 1)
bit_four b = let e : bit_and b 16 ≡ bit_at b 4 * 16 = and_pow b 4 in let one : b / 16 % 2 ≤ 1 = omega arith in (e, one)

pub marks_place : (y m : ℕ) → y < 4294967296 → m ≡ bit_and y 269488128 + 68719476736 → IsPlace (trailing_zeros w64 m)
marks_place y m small is =
    let parts = bytes_in y small in
    let a = y % 256 in
    let b = y / 256 % 256 in
    let c = y / 65536 % 256 in
    let d = y / 16777216 in
    let none : bit_and a 0 ≡ 0 = omega (arith, and_le_r a 0) in
    let masked : bit_and y 269488128 ≡ four_of (bit_and a 0) (bit_and b 16) (bit_and c 16) (bit_and d 16) = ap (λ w. bit_and w 269488128) parts.1
    ∙ and_four a b c d 0 16 16 16 parts.0 (omega arith, omega arith, omega arith, omega arith) in
    let bits : m ≡ 4096 * (bit_at b 4 + 256 * bit_at c 4 + 65536 * bit_at d 4 + 16777216) =
    omega (arith, is, masked, none, (bit_four b).0, (bit_four c).0, (bit_four d).0) in
    let lowest = bit_at-trailing_zeros w64 m (omega (arith, is))
    (omega (arith, bits, (bit_four b).1, (bit_four c).1, (bit_four d).1)) in
    place_of (bit_at b 4) (bit_at c 4) (bit_at d 4) m (trailing_zeros w64 m) (bit_four b).1 (bit_four c).1 (bit_four d).1 bits (lowest.1, lowest.2)

digit_is : (v b : ℕ) → v ≤ 9 → b ≡ v + 48 → is_ascii_digit b ≡ true
digit_is v b few is = let low : 48 ≤ b = omega (arith, is) in let top : b ≤ 57 = omega (arith, is, few) in grind (arith, nat_tests)

one_more : (d : ℕ) (ds : List ℕ) → is_ascii_digit d ≡ true → all_ascii_digits ds ≡ true → all_ascii_digits (d ∷ ds) ≡ true
one_more d ds digit all = ap (λ t. t && all_ascii_digits ds) digit ∙ all

-- so many bytes of a text, from a place on
abbrev pub bytes_from : List ℕ → ℕ → ℕ → List ℕ
bytes_from text n zero = []
bytes_from text n (suc k) = get_or text n 0 ∷ bytes_from text (suc n) k

take_bytes : (k n : ℕ) (text : List ℕ) → n + k ≤ length text → take k (drop n text) ≡ bytes_from text n k
take_bytes zero n text inside = refl
take_bytes (suc k) n text inside =
    ap (take (suc k)) (drop-cons text n 0 (omega arith)) ∙ ap (λ xs. get_or text n 0 ∷ xs) (take_bytes k (suc n) text (omega arith))

pub front_bytes : (k : ℕ) (text : List ℕ) → k ≤ length text → take k text ≡ bytes_from text 0 k
front_bytes k text inside = ap (take k) (sym (drop_none text)) ∙ take_bytes k 0 text (omega arith)

-- bytes of a text are digits with a value
pub record AreNumber (ds : List ℕ) (n : ℕ) : Type 0 where
  pub digits : all_ascii_digits ds ≡ true
  pub value : n ≡ digits_value 10 ds

-- the bytes of a word that is digits less four zeros
word_digits : (w v p q r s : ℕ) (h : AreDigits v) → v ≡ values_of w → AreBytes p q r s → w ≡ four_of p q r s
    → (p ≡ h.a + 48) × (q ≡ h.b + 48) × (r ≡ h.c + 48) × (s ≡ h.d + 48)
word_digits w v p q r s h less bytes is =
    let sum : four_of p q r s ≡ four_of (h.a + 48) (h.b + 48) (h.c + 48) (h.d + 48) = omega (arith, is, bytes, less, h.is, h.small) in
    let one = same_from_place ((s * 256 + r) * 256 + q) p _ (h.a + 48) 256 bytes.0 (omega (arith, h.small)) sum in
    let two = same_from_place (s * 256 + r) q _ (h.b + 48) 256 bytes.1 (omega (arith, h.small)) one.0 in
    let three = same_from_place s r (h.d + 48) (h.c + 48) 256 bytes.2 (omega (arith, h.small)) two.0 in
    (one.1, two.1, three.1, three.0)

-- the number of four digits, by their values
abbrev pub number_of : (a b c d : ℕ) → ℕ
number_of a b c d = ((a * 10 + b) * 10 + c) * 10 + d

four_number : (a b c d p q r s : ℕ) → (a ≤ 9) × (b ≤ 9) × (c ≤ 9) × (d ≤ 9) → (p ≡ a + 48) × (q ≡ b + 48) × (r ≡ c + 48) × (s ≡ d + 48)
    → AreNumber (p ∷ q ∷ r ∷ s ∷ []) (number_of a b c d)
four_number a b c d p q r s small is =
    let dp = digit_is a p small.0 is.0 in
    let dq = digit_is b q small.1 is.1 in
    let dr = digit_is c r small.2 is.2 in
    let ds = digit_is d s small.3 is.3 in record {
      digits = one_more p (q ∷ r ∷ s ∷ []) dp (one_more q (r ∷ s ∷ []) dq (one_more r (s ∷ []) dr (one_more s [] ds refl)));
      value =
          (let e : number_of a b c d ≡ (((0 * 10 + digit_value p) * 10 + digit_value q) * 10 + digit_value r) * 10 + digit_value s =
          omega (arith, is, digit_value_is p dp, digit_value_is q dq, digit_value_is r dr, digit_value_is s ds) in e);
    }

three_number : (b c d p q r : ℕ) → (b ≤ 9) × (c ≤ 9) × (d ≤ 9) → (p ≡ b + 48) × (q ≡ c + 48) × (r ≡ d + 48)
    → AreNumber (p ∷ q ∷ r ∷ []) (number_of 0 b c d)
three_number b c d p q r small is =
    let dp = digit_is b p small.0 is.0 in
    let dq = digit_is c q small.1 is.1 in
    let dr = digit_is d r small.2 is.2 in record {
      digits = one_more p (q ∷ r ∷ []) dp (one_more q (r ∷ []) dq (one_more r [] dr refl));
      value =
          (let e : number_of 0 b c d ≡ ((0 * 10 + digit_value p) * 10 + digit_value q) * 10 + digit_value r =
          omega (arith, is, digit_value_is p dp, digit_value_is q dq, digit_value_is r dr) in e);
    }

two_number : (c d p q : ℕ) → (c ≤ 9) × (d ≤ 9) → (p ≡ c + 48) × (q ≡ d + 48) → AreNumber (p ∷ q ∷ []) (number_of 0 0 c d)
two_number c d p q small is =
    let dp = digit_is c p small.0 is.0 in
    let dq = digit_is d q small.1 is.1 in record {
      digits = one_more p (q ∷ []) dp (one_more q [] dq refl);
      value =
          (let e : number_of 0 0 c d ≡ (0 * 10 + digit_value p) * 10 + digit_value q =
          omega (arith, is, digit_value_is p dp, digit_value_is q dq) in e);
    }

one_number : (d p : ℕ) → d ≤ 9 → p ≡ d + 48 → AreNumber (p ∷ []) (number_of 0 0 0 d)
one_number d p small is =
    let dp = digit_is d p small is in record {
      digits = one_more p [] dp refl;
      value = (let e : number_of 0 0 0 d ≡ 0 * 10 + digit_value p = omega (arith, is, digit_value_is p dp) in e);
    }

five_number : (a b c d p q r s t : ℕ) → (a ≤ 9) × (b ≤ 9) × (c ≤ 9) × (d ≤ 9) → (p ≡ a + 48) × (q ≡ b + 48) × (r ≡ c + 48) × (s ≡ d + 48)
    → t < 256 → (t + 208) % 256 ≤ 9 → AreNumber (p ∷ q ∷ r ∷ s ∷ t ∷ []) (10 * number_of a b c d + (t + 208) % 256)
five_number a b c d p q r s t small is byte last =
    let dp = digit_is a p small.0 is.0 in
    let dq = digit_is b q small.1 is.1 in
    let dr = digit_is c r small.2 is.2 in
    let ds = digit_is d s small.3 is.3 in
    let dt = digit_is ((t + 208) % 256) t last (omega (arith, byte, last)) in record {
      digits =
          one_more p (q ∷ r ∷ s ∷ t ∷ []) dp (one_more q (r ∷ s ∷ t ∷ []) dq (one_more r (s ∷ t ∷ []) dr (one_more s (t ∷ []) ds (one_more t [] dt refl))));
      value = (let e : 10 * number_of a b c d + (t + 208) % 256 ≡ digits_value 10 (p ∷ q ∷ r ∷ s ∷ []) * 10 + digit_value t =
          omega (arith, (four_number a b c d p q r s small is).value, byte, last, digit_value_is t dt) in e);
    }

-- the first digits of a word that was moved up
three_of : (w p q r s v : ℕ) (h : AreDigits v) → AreBytes p q r s → w ≡ four_of p q r s → v ≡ aligned w 3
    → (h.a ≡ 0) × (p ≡ h.b + 48) × (q ≡ h.c + 48) × (r ≡ h.d + 48)
three_of w p q r s v h bytes is moved =
    let low : values_of w % 16777216 ≡ (h.d * 256 + h.c) * 256 + h.b = omega (arith, moved, h.is, h.small) in
    let none : h.a ≡ 0 = omega (arith, moved, h.is, h.small) in
    let sum : (r * 256 + q) * 256 + p ≡ ((h.d + 48) * 256 + (h.c + 48)) * 256 + (h.b + 48) = omega (arith, is, bytes, low, h.small) in
    let one = same_from_place (r * 256 + q) p _ (h.b + 48) 256 bytes.0 (omega (arith, h.small)) sum in
    let two = same_from_place r q (h.d + 48) (h.c + 48) 256 bytes.1 (omega (arith, h.small)) one.0 in
    (none, one.1, two.1, two.0)

two_of : (w p q r s v : ℕ) (h : AreDigits v) → AreBytes p q r s → w ≡ four_of p q r s → v ≡ aligned w 2
    → (h.a ≡ 0) × (h.b ≡ 0) × (p ≡ h.c + 48) × (q ≡ h.d + 48)
two_of w p q r s v h bytes is moved =
    let low : values_of w % 65536 ≡ h.d * 256 + h.c = omega (arith, moved, h.is, h.small) in
    let none : h.a ≡ 0 = omega (arith, moved, h.is, h.small) in
    let none_b : h.b ≡ 0 = omega (arith, moved, h.is, h.small) in
    let sum : q * 256 + p ≡ (h.d + 48) * 256 + (h.c + 48) = omega (arith, is, bytes, low, h.small) in
    let one = same_from_place q p (h.d + 48) (h.c + 48) 256 bytes.0 (omega (arith, h.small)) sum in
    (none, none_b, one.1, one.0)

one_of : (w p q r s v : ℕ) (h : AreDigits v) → AreBytes p q r s → w ≡ four_of p q r s → v ≡ aligned w 1
    → (h.a ≡ 0) × (h.b ≡ 0) × (h.c ≡ 0) × (p ≡ h.d + 48)
one_of w p q r s v h bytes is moved =
    let low : values_of w % 256 ≡ h.d = omega (arith, moved, h.is, h.small) in
    let none : h.a ≡ 0 = omega (arith, moved, h.is, h.small) in
    let none_b : h.b ≡ 0 = omega (arith, moved, h.is, h.small) in
    let none_c : h.c ≡ 0 = omega (arith, moved, h.is, h.small) in
    (none, none_b, none_c, omega (arith, is, bytes, low, h.small))

-- the first bytes of a text as a word
abbrev pub front_word : List ℕ → ℕ
front_word text = four_of (get_or text 0 0) (get_or text 1 0) (get_or text 2 0) (get_or text 3 0)

-- a text has bytes
abbrev pub AreTextBytes : List ℕ → Type 0
AreTextBytes text = (i : ℕ) → get_or text i 0 < 256

front_of : (text : List ℕ) → AreTextBytes text → AreBytes (get_or text 0 0) (get_or text 1 0) (get_or text 2 0) (get_or text 3 0)
front_of text bytes = (bytes 0, bytes 1, bytes 2, bytes 3)

same_number : (ds : List ℕ) (m n : ℕ) → AreNumber ds m → m ≡ n → AreNumber ds n
same_number ds m n h e = subst (AreNumber ds) e h

pub whole_number : (k v : ℕ) (text : List ℕ) (h : AreDigits v) → AreTextBytes text → 1 ≤ k → k ≤ 4 → v ≡ aligned (front_word text) k
    → AreNumber (bytes_from text 0 k) (number_of h.a h.b h.c h.d)
whole_number zero v text h bytes some few is = absurd (omega (arith, some))
whole_number (suc zero) v text h bytes some few is =
    let e = one_of (front_word text) _ _ _ _ v h (front_of text bytes) refl is in
    same_number _ _ _ (one_number h.d (get_or text 0 0) h.small.3 e.3) (omega (arith, e.0, e.1, e.2))
whole_number (suc (suc zero)) v text h bytes some few is =
    let e = two_of (front_word text) _ _ _ _ v h (front_of text bytes) refl is in
    same_number _ _ _ (two_number h.c h.d (get_or text 0 0) (get_or text 1 0) (h.small.2, h.small.3) (e.2, e.3)) (omega (arith, e.0, e.1))
whole_number (suc (suc (suc zero))) v text h bytes some few is =
    let e = three_of (front_word text) _ _ _ _ v h (front_of text bytes) refl is in
    same_number _ _ _
    (three_number h.b h.c h.d (get_or text 0 0) (get_or text 1 0) (get_or text 2 0) (h.small.1, h.small.2, h.small.3) (e.1, e.2, e.3)) (omega (arith, e.0))
whole_number (suc (suc (suc (suc zero)))) v text h bytes some few is =
    let front = front_of text bytes in
    let all : v ≡ values_of (front_word text) = omega (arith, is) in
    four_number h.a h.b h.c h.d (get_or text 0 0) (get_or text 1 0) (get_or text 2 0) (get_or text 3 0) h.small
    (word_digits (front_word text) v _ _ _ _ h all front refl)
whole_number (suc (suc (suc (suc (suc k))))) v text h bytes some few is = absurd (omega (arith, few))

-- five bytes of a text that are digits
pub fraction_number : (n v : ℕ) (text : List ℕ) (h : AreDigits v) → AreTextBytes text
    → v ≡ values_of (four_of (get_or text n 0) (get_or text (n + 1) 0) (get_or text (n + 2) 0) (get_or text (n + 3) 0))
    → (get_or text (n + 4) 0 + 208) % 256 ≤ 9
    → AreNumber (get_or text n 0 ∷ get_or text (n + 1) 0 ∷ get_or text (n + 2) 0 ∷ get_or text (n + 3) 0 ∷ get_or text (n + 4) 0 ∷ [])
    (10 * number_of h.a h.b h.c h.d + (get_or text (n + 4) 0 + 208) % 256)
fraction_number n v text h bytes is last =
    five_number h.a h.b h.c h.d (get_or text n 0) (get_or text (n + 1) 0) (get_or text (n + 2) 0) (get_or text (n + 3) 0) (get_or text (n + 4) 0) h.small
    (word_digits _ v _ _ _ _ h is (bytes n, bytes (n + 1), bytes (n + 2), bytes (n + 3)) refl) (bytes (n + 4)) last

-- digits, a point and five digits at the front of a text
pub printed_front : (k : ℕ) (text : List ℕ) (n m : ℕ) → 1 ≤ k → k ≤ 4 → k + 6 ≤ length text → get_or text k 0 ≡ 46 → AreNumber (bytes_from text 0 k) n
    → AreNumber (get_or text (k + 1) 0 ∷ get_or text (k + 1 + 1) 0 ∷ get_or text (k + 1 + 2) 0 ∷ get_or text (k + 1 + 3) 0 ∷ get_or text (k + 1 + 4) 0 ∷ []) m
    → n ≤ 9999 → m < 100000 → IsMagnitude text (n * 65536 + (m * 131072 + 100000) / 200000) (k + 6)
printed_front zero text n m some few inside point whole fraction small small_m = absurd (omega (arith, some))
printed_front (suc zero) text n m some few inside point whole fraction small small_m =
    printed_text text (bytes_from text 0 1) (bytes_from text 2 5) _ 7
    (front_bytes 7 text inside ∙ ap (λ c. get_or text 0 0 ∷ c ∷ bytes_from text 2 5) point) inside (omega arith) (omega arith) whole.digits refl
    fraction.digits (ap (λ d. d * 65536 + (m * 131072 + 100000) / 200000) whole.value
    ∙ ap (λ d. digits_value 10 (bytes_from text 0 1) * 65536 + (d * 131072 + 100000) / 200000) fraction.value) (omega (arith, small, small_m))
printed_front (suc (suc zero)) text n m some few inside point whole fraction small small_m =
    printed_text text (bytes_from text 0 2) (bytes_from text 3 5) _ 8
    (front_bytes 8 text inside ∙ ap (λ c. get_or text 0 0 ∷ get_or text 1 0 ∷ c ∷ bytes_from text 3 5) point) inside (omega arith) (omega arith)
    whole.digits refl fraction.digits (ap (λ d. d * 65536 + (m * 131072 + 100000) / 200000) whole.value
    ∙ ap (λ d. digits_value 10 (bytes_from text 0 2) * 65536 + (d * 131072 + 100000) / 200000) fraction.value) (omega (arith, small, small_m))
printed_front (suc (suc (suc zero))) text n m some few inside point whole fraction small small_m =
    printed_text text (bytes_from text 0 3) (bytes_from text 4 5) _ 9
    (front_bytes 9 text inside ∙ ap (λ c. get_or text 0 0 ∷ get_or text 1 0 ∷ get_or text 2 0 ∷ c ∷ bytes_from text 4 5) point) inside
    (omega arith) (omega arith) whole.digits refl fraction.digits (ap (λ d. d * 65536 + (m * 131072 + 100000) / 200000) whole.value
    ∙ ap (λ d. digits_value 10 (bytes_from text 0 3) * 65536 + (d * 131072 + 100000) / 200000) fraction.value) (omega (arith, small, small_m))
printed_front (suc (suc (suc (suc zero)))) text n m some few inside point whole fraction small small_m =
    printed_text text (bytes_from text 0 4) (bytes_from text 5 5) _ 10
    (front_bytes 10 text inside ∙ ap (λ c. get_or text 0 0 ∷ get_or text 1 0 ∷ get_or text 2 0 ∷ get_or text 3 0 ∷ c ∷ bytes_from text 5 5) point) inside
    (omega arith) (omega arith) whole.digits refl fraction.digits (ap (λ d. d * 65536 + (m * 131072 + 100000) / 200000) whole.value
    ∙ ap (λ d. digits_value 10 (bytes_from text 0 4) * 65536 + (d * 131072 + 100000) / 200000) fraction.value) (omega (arith, small, small_m))
printed_front (suc (suc (suc (suc (suc k))))) text n m some few inside point whole fraction small small_m = absurd (omega (arith, few))
