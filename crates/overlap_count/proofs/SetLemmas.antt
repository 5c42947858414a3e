-- The bits of a set of slots, and how many there are.
use Rattle.std.proofs.Common.{◌≡◌, ◌≢◌, ℕ, zero, suc, ◌+◌, ◌*◌, ◌/◌, ◌%◌, ◌<◌, ◌≤◌, cond, List, [], ◌++◌}
use Rattle.std.proofs.Common.{length, get_or, set, replicate, refl, sym, ap, ◌∙◌, subst, arith, count_by, length-set, inl, inr}
use Rattle.std.specs.Int.{bit_at}
use Rattle.std.proofs.lemmas.Bool.{cases_lt}
use Rattle.std.proofs.lemmas.List.{get_or_past}
use Rattle.std.proofs.lemmas.List.Sums.{count_by-le-length, sum_by-set, sum_by-append, sum_by-cons, get_or-le-sum_by}
use Rattle.std.proofs.lemmas.Nat.Bits.{bit_at-zero}
use Rattle.overlap_count.specs.SlotCounts.{bits_of, is_one, IsSet}
use Rattle.overlap_count.proofs.SpreadLemmas.{length-spread, get_or-spread, spread_none, spread-set, grown_spread}

pub length-bits_of : (words : List ℕ) → length (bits_of words) ≡ 64 * length words
length-bits_of words = length-spread bit_at 0 words

pub get_or-bits_of : (words : List ℕ) (k : ℕ) → get_or (bits_of words) k 0 ≡ bit_at (get_or words (k / 64) 0) (k % 64)
get_or-bits_of words k = get_or-spread bit_at 0 bit_at-zero words k

pub no_words : (words : List ℕ) → words ≡ [] → bits_of words ≡ []
no_words words none = spread_none bit_at 0 words none

pub set_of_none : (words : List ℕ) → words ≡ [] → IsSet words 0
set_of_none words none = record {
  few = omega (arith, ap length none);
  number_is = ap (count_by is_one) (sym (no_words words none));
}

-- ---- how many slots there are

-- a slot of the set is among them
among : (xs : List ℕ) (i : ℕ) → i < length xs → cond (is_one (get_or xs i 0)) 1 0 ≤ count_by is_one xs
among xs i lt = get_or-le-sum_by (λ x. cond (is_one x) 1 0) xs i 0 lt

recounted : (xs : List ℕ) (i old new before after : ℕ) → i < length xs → get_or xs i 0 ≡ old → before ≡ count_by is_one xs
    → after + cond (is_one old) 1 0 ≡ before + cond (is_one new) 1 0 → after ≡ count_by is_one (set xs i new)
recounted xs i old new before after lt is b a =
    let e : count_by is_one (set xs i new) + cond (is_one old) 1 0 ≡ count_by is_one xs + cond (is_one new) 1 0 =
    subst (λ n. count_by is_one (set xs i new) + cond (is_one n) 1 0 ≡ count_by is_one xs + cond (is_one new) 1 0) is
    (sum_by-set (λ x. cond (is_one x) 1 0) xs i new 0 lt) in
    omega (arith, e, a, b)

pub few_slots : (words : List ℕ) (number : ℕ) → IsSet words number → number ≤ 8192
few_slots words number s = omega (arith, s.number_is, s.few, count_by-le-length is_one (bits_of words), length-bits_of words)

pub some_slot : (words : List ℕ) (number slot : ℕ) (bits : List ℕ) → IsSet words number → bits_of words ≡ bits → get_or bits slot 0 ≡ 1 → 1 ≤ number
some_slot words number slot bits s is one =
    let one' : get_or (bits_of words) slot 0 ≡ 1 = ap (λ l. get_or l slot 0) is ∙ one in
    elim (cases_lt slot (length (bits_of words))) [
      | inl lt ↦
          let few : cond (is_one 1) 1 0 ≤ count_by is_one (bits_of words) = subst (λ n. cond (is_one n) 1 0 ≤ count_by is_one (bits_of words)) one'
          (among (bits_of words) slot lt) in
          omega (arith, few, s.number_is)
      | inr past ↦ absurd (omega (arith, get_or_past (bits_of words) slot 0 past, one'))
    ]

-- where there are none, each bit is 0
pub no_slot : (words : List ℕ) (number slot : ℕ) (bits : List ℕ) → IsSet words number → bits_of words ≡ bits → number ≡ 0 → get_or bits slot 0 ≢ 1
no_slot words number slot bits s is none one = absurd (omega (arith, none, some_slot words number slot bits s is one))

-- ---- a word that is written, with one bit changed

pub word_written : (words bits : List ℕ) (slot v w : ℕ) → bits_of words ≡ bits → slot < length bits → bit_at w (slot % 64) ≡ v
    → ((k : ℕ) → k < 64 → k ≢ slot % 64 → bit_at w k ≡ bit_at (get_or words (slot / 64) 0) k)
    → bits_of (set words (slot / 64) w) ≡ set bits slot v
word_written words bits slot v w is lt here others =
    spread-set bit_at 0 bit_at-zero words slot v w (omega (arith, length-bits_of words, ap length is)) here others ∙ ap (λ l. set l slot v) is

pub set_written : (words bits : List ℕ) (number number' slot old v w : ℕ) → IsSet words number → bits_of words ≡ bits → slot < length bits
    → get_or bits slot 0 ≡ old → bit_at w (slot % 64) ≡ v
    → ((k : ℕ) → k < 64 → k ≢ slot % 64 → bit_at w k ≡ bit_at (get_or words (slot / 64) 0) k)
    → number' + cond (is_one old) 1 0 ≡ number + cond (is_one v) 1 0 → IsSet (set words (slot / 64) w) number'
set_written words bits number number' slot old v w s is lt was here others count = record {
  few = omega (arith, length-set words (slot / 64) w, s.few);
  number_is =
      recounted bits slot old v number number' lt was (s.number_is ∙ ap (count_by is_one) is) count
      ∙ ap (count_by is_one) (sym (word_written words bits slot v w is lt here others));
}

-- ---- words of 0 at the end

zeros_fail : (n : ℕ) → count_by is_one (replicate n 0) ≡ 0
zeros_fail zero = refl
zeros_fail (suc n) = sum_by-cons (λ y. cond (is_one y) 1 0) 0 (replicate n 0) ∙ omega (arith, zeros_fail n)

pub grown_set : (old new : List ℕ) (number m : ℕ) → IsSet old number → new ≡ old ++ replicate m 0 → length new ≤ 128 → IsSet new number
grown_set old new number m s is few = record {
  few = few;
  number_is =
      s.number_is
      ∙ sym (ap (count_by is_one) (grown_spread bit_at 0 bit_at-zero old new m is)
      ∙ sum_by-append (λ y. cond (is_one y) 1 0) (bits_of old) (replicate (64 * m) 0)
      ∙ omega (arith, zeros_fail (64 * m)));
}
