-- The counts of a list's tallies: their two digits, and a tally that is read and written.
use Rattle.std.proofs.Common.{◌≡◌, ◌≢◌, ℕ, ◌+◌, ◌-◌, ◌*◌, ◌/◌, ◌%◌, ◌^◌, ◌<◌, Bool, true, false, not, cond, ◌&&◌, List, length, get_or, set}
use Rattle.std.proofs.Common.{eqb, refl, sym, ap, ◌∙◌, subst, arith, w64, bit_and, bit_xor, inl, inr, eq-eqb, ne_eqb}
use Rattle.std.specs.Int.{bit_at, trailing_zeros}
use mir.Val.{bool_byte}
use Rattle.std.proofs.lemmas.Bool.{cases_eq}
use Rattle.std.proofs.lemmas.Nat.{and_le_r}
use Rattle.std.proofs.lemmas.List.{get_or_read}
use Rattle.std.proofs.lemmas.Nat.Bits.{bit_at-zero, bit_at-lt, bit_at_and, bit_at_or, bit_at_xor, bit_at_set_same, bit_at_set_other, bit_at-trailing_zeros}
use Rattle.overlap_count.specs.declared.tally.Tally.{Tally}
use Rattle.overlap_count.specs.SlotCounts.{digit, blank, counts_of}
use Rattle.overlap_count.proofs.SpreadLemmas.{length-spread, get_or-spread, spread-set}

-- ---- a word of one bit

pub one_bit : (p : ℕ) → p < 64 → bit_at (1 * 2 ^ p % 18446744073709551616) p ≡ 1
one_bit p lt =
    omega (arith, bit_at_set_same w64 0 p lt, bit_at_or 0 (1 * 2 ^ p % 18446744073709551616) p, bit_at-zero p)

pub no_bit : (p k : ℕ) → p < 64 → k ≢ p → bit_at (1 * 2 ^ p % 18446744073709551616) k ≡ 0
no_bit p k lt other =
    omega (arith, bit_at_set_other w64 0 p lt k other, bit_at_or 0 (1 * 2 ^ p % 18446744073709551616) k, bit_at-zero k)

no_word : (p k : ℕ) → bit_at (0 * 2 ^ p % 18446744073709551616) k ≡ 0
no_word p k =
    let none : 0 * 2 ^ p % 18446744073709551616 ≡ 0 = omega arith in
    ap (λ w. bit_at w k) none ∙ bit_at-zero k

-- a flag that is shifted to a place
pub flag_here : (does : Bool) (v p : ℕ) → v ≡ bool_byte does → p < 64 → bit_at (v * 2 ^ p % 18446744073709551616) p ≡ cond does 1 0
flag_here true v p is lt = ap (λ n. bit_at (n * 2 ^ p % 18446744073709551616) p) is ∙ one_bit p lt
flag_here false v p is lt = ap (λ n. bit_at (n * 2 ^ p % 18446744073709551616) p) is ∙ no_word p p

pub flag_other : (does : Bool) (v p k : ℕ) → v ≡ bool_byte does → p < 64 → k ≢ p → bit_at (v * 2 ^ p % 18446744073709551616) k ≡ 0
flag_other true v p k is lt other = ap (λ n. bit_at (n * 2 ^ p % 18446744073709551616) k) is ∙ no_bit p k lt other
flag_other false v p k is lt other = ap (λ n. bit_at (n * 2 ^ p % 18446744073709551616) k) is ∙ no_word p k

-- ---- a word's bit is tested by the word of one bit, where a flag says so

pub tells : (does : Bool) (word bit p : ℕ) → bit < 18446744073709551616 → bit_at bit p ≡ cond does 1 0 → ((k : ℕ) → k ≢ p → bit_at bit k ≡ 0)
    → not (eqb (bit_and word bit) 0) ≡ (does && eqb (bit_at word p) 1)
tells does word bit p small here others = elim (cases_eq (bit_and word bit) 0) [
  | inl none ↦ ap not (eq-eqb (bit_and word bit) 0 none) ∙ sym (off does here (ap (λ w. bit_at w p) none ∙ bit_at-zero p))
  | inr some ↦ ap not (ne_eqb (bit_and word bit) 0 some) ∙ sym (on does here (found some))
]
  where
    off : (does : Bool) → bit_at bit p ≡ cond does 1 0 → bit_at (bit_and word bit) p ≡ 0 → (does && eqb (bit_at word p) 1) ≡ false
    off true here zero = ne_eqb (bit_at word p) 1 (λ one. absurd (omega (arith, one, here, zero, bit_at_and word bit p)))
    off false here zero = refl

    on : (does : Bool) → bit_at bit p ≡ cond does 1 0 → bit_at (bit_and word bit) p ≡ 1 → (does && eqb (bit_at word p) 1) ≡ true
    on true here one = eq-eqb (bit_at word p) 1 (omega (arith, one, here, bit_at_and word bit p, bit_at-lt word p))
    on false here one = absurd (omega (arith, one, here, bit_at_and word bit p))

    found : bit_and word bit ≢ 0 → bit_at (bit_and word bit) p ≡ 1
    found some =
        let lowest = bit_at-trailing_zeros w64 (bit_and word bit) (omega (arith, some)) (omega (arith, and_le_r word bit, small)) in
        let place = trailing_zeros w64 (bit_and word bit) in
        let set : bit_at (bit_and word bit) place ≡ 1 = lowest.1 in
        elim (cases_eq place p) [
          | inl same ↦ subst (λ k. bit_at (bit_and word bit) k ≡ 1) same set
          | inr other ↦ absurd (omega (arith, set, bit_at_and word bit place, others place other))
        ]

-- ---- one more and one less, at the place of the bit and elsewhere

raised_here : (low high bit p : ℕ) → bit_at bit p ≡ 1 → bit_at low p + 2 * bit_at high p < 3
    → bit_at (bit_xor low bit) p + 2 * bit_at (bit_xor high (bit_and low bit)) p ≡ bit_at low p + 2 * bit_at high p + 1
raised_here low high bit p one room =
    omega (
      arith,
      one,
      room,
      bit_at_xor low bit p,
      bit_at_xor high (bit_and low bit) p,
      bit_at_and low bit p,
      bit_at-lt low p,
      bit_at-lt high p,
    )

pub raised_other : (low high bit k : ℕ) → bit_at bit k ≡ 0
    → bit_at (bit_xor low bit) k + 2 * bit_at (bit_xor high (bit_and low bit)) k ≡ bit_at low k + 2 * bit_at high k
raised_other low high bit k none =
    omega (
      arith,
      none,
      bit_at_xor low bit k,
      bit_at_xor high (bit_and low bit) k,
      bit_at_and low bit k,
      bit_at-lt low k,
      bit_at-lt high k,
    )

pub raised_if : (rises : Bool) (low high bit p : ℕ) → bit_at bit p ≡ cond rises 1 0 → (rises ≡ true → bit_at low p + 2 * bit_at high p < 3)
    → bit_at (bit_xor low bit) p + 2 * bit_at (bit_xor high (bit_and low bit)) p
    ≡ cond rises (bit_at low p + 2 * bit_at high p + 1) (bit_at low p + 2 * bit_at high p)
raised_if true low high bit p here room = raised_here low high bit p here (room refl)
raised_if false low high bit p here room = raised_other low high bit p here

lowered_here : (low high bit p : ℕ) → bit_at bit p ≡ 1 → bit_at low p + 2 * bit_at high p ≢ 0
    → bit_at (bit_xor low bit) p + 2 * bit_at (bit_xor high (bit_and (bit_xor low bit) bit)) p ≡ bit_at low p + 2 * bit_at high p - 1
lowered_here low high bit p one above =
    omega (
      arith,
      one,
      above,
      bit_at_xor low bit p,
      bit_at_xor high (bit_and (bit_xor low bit) bit) p,
      bit_at_and (bit_xor low bit) bit p,
      bit_at-lt low p,
      bit_at-lt high p,
    )

pub lowered_other : (low high bit k : ℕ) → bit_at bit k ≡ 0
    → bit_at (bit_xor low bit) k + 2 * bit_at (bit_xor high (bit_and (bit_xor low bit) bit)) k ≡ bit_at low k + 2 * bit_at high k
lowered_other low high bit k none =
    omega (
      arith,
      none,
      bit_at_xor low bit k,
      bit_at_xor high (bit_and (bit_xor low bit) bit) k,
      bit_at_and (bit_xor low bit) bit k,
      bit_at-lt low k,
      bit_at-lt high k,
    )

pub lowered_if : (lowers : Bool) (low high bit p : ℕ) → bit_at bit p ≡ cond lowers 1 0 → (lowers ≡ true → bit_at low p + 2 * bit_at high p ≢ 0)
    → bit_at (bit_xor low bit) p + 2 * bit_at (bit_xor high (bit_and (bit_xor low bit) bit)) p
    ≡ cond lowers (bit_at low p + 2 * bit_at high p - 1) (bit_at low p + 2 * bit_at high p)
lowered_if true low high bit p here above = lowered_here low high bit p here (above refl)
lowered_if false low high bit p here above = lowered_other low high bit p here

-- ---- a count that comes to 3, or is 3

same_test : (a b c d : ℕ) → (a ≡ b → c ≡ d) → (c ≡ d → a ≡ b) → eqb a b ≡ eqb c d
same_test a b c d to from = elim (cases_eq a b) [
  | inl same ↦ eq-eqb a b same ∙ sym (eq-eqb c d (to same))
  | inr other ↦ ne_eqb a b other ∙ sym (ne_eqb c d (λ e. other (from e)))
]

pub fills : (rises : Bool) (low high bit p : ℕ) → bit < 18446744073709551616 → bit_at bit p ≡ cond rises 1 0 → ((k : ℕ) → k ≢ p → bit_at bit k ≡ 0)
    → not (eqb (bit_and (bit_and high (bit_xor low bit)) bit) 0) ≡ (rises && eqb (bit_at low p + 2 * bit_at high p) 2)
fills rises low high bit p small here others = tells rises (bit_and high (bit_xor low bit)) bit p small here others ∙ test rises here
  where
    test : (rises : Bool) → bit_at bit p ≡ cond rises 1 0
        → (rises && eqb (bit_at (bit_and high (bit_xor low bit)) p) 1) ≡ (rises && eqb (bit_at low p + 2 * bit_at high p) 2)
    test true one = let a = bit_at_and high (bit_xor low bit) p in let x = bit_at_xor low bit p in let l = bit_at-lt low p in let h = bit_at-lt high p in
        same_test (bit_at (bit_and high (bit_xor low bit)) p) 1 (bit_at low p + 2 * bit_at high p) 2
        (λ e. omega (arith, e, one, a, x, l, h)) (λ e. omega (arith, e, one, a, x, l, h))
    test false none = refl

pub empties : (lowers : Bool) (low high bit p : ℕ) → bit < 18446744073709551616 → bit_at bit p ≡ cond lowers 1 0 → ((k : ℕ) → k ≢ p → bit_at bit k ≡ 0)
    → not (eqb (bit_and (bit_and high low) bit) 0) ≡ (lowers && eqb (bit_at low p + 2 * bit_at high p) 3)
empties lowers low high bit p small here others = tells lowers (bit_and high low) bit p small here others ∙ test lowers
  where
    test : (lowers : Bool) → (lowers && eqb (bit_at (bit_and high low) p) 1) ≡ (lowers && eqb (bit_at low p + 2 * bit_at high p) 3)
    test true = let a = bit_at_and high low p in let l = bit_at-lt low p in let h = bit_at-lt high p in
        same_test (bit_at (bit_and high low) p) 1 (bit_at low p + 2 * bit_at high p) 3 (λ e. omega (arith, e, a, l, h)) (λ e. omega (arith, e, a, l, h))
    test false = refl

-- ---- a list's tallies

pub blank_digit : (k : ℕ) → digit blank k ≡ 0
blank_digit k = omega (arith, bit_at-zero k)

pub length-counts_of : (ts : List Tally) → length (counts_of ts) ≡ 64 * length ts
length-counts_of ts = length-spread digit blank ts

pub get_or-counts_of : (ts : List Tally) (k : ℕ) → get_or (counts_of ts) k 0 ≡ digit (get_or ts (k / 64) blank) (k % 64)
get_or-counts_of ts k = get_or-spread digit blank blank_digit ts k

within : (ts : List Tally) (counts : List ℕ) (place : ℕ) → counts_of ts ≡ counts → place < length counts → place < 64 * length ts
within ts counts place is lt = omega (arith, length-counts_of ts, ap length is)

pub tally_read : (ts : List Tally) (counts : List ℕ) (place : ℕ) (t : Tally) → counts_of ts ≡ counts → place < length counts
    → t ≡ get_or ts (place / 64) t → digit t (place % 64) ≡ get_or counts place 0
tally_read ts counts place t is lt read =
    let lt' = within ts counts place is lt in
    ap (λ u. digit u (place % 64)) (get_or_read ts (place / 64) t (omega (arith, lt')) read blank) ∙ sym (get_or-counts_of ts place)
    ∙ ap (λ l. get_or l place 0) is

pub tally_written : (ts : List Tally) (counts : List ℕ) (place v : ℕ) (t u : Tally) → counts_of ts ≡ counts → place < length counts
    → t ≡ get_or ts (place / 64) t → digit u (place % 64) ≡ v → ((k : ℕ) → k < 64 → k ≢ place % 64 → digit u k ≡ digit t k)
    → counts_of (set ts (place / 64) u) ≡ set counts place v
tally_written ts counts place v t u is lt read here others =
    let lt' = within ts counts place is lt in
    let same : t ≡ get_or ts (place / 64) blank = get_or_read ts (place / 64) t (omega (arith, lt')) read blank in
    spread-set digit blank blank_digit ts place v u lt' here (λ k small other. others k small other ∙ ap (λ w. digit w k) same)
    ∙ ap (λ l. set l place v) is
