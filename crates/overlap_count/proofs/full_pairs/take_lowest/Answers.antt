-- The word without its lowest bit differs there alone, and is less.
use Rattle.std.proofs.Common.{◌≡◌, ◌≢◌, ◌-◌, ◌*◌, ◌^◌, ◌%◌, arith, w64, ap, bit_and}
use Rattle.std.specs.Int.{bit_at, trailing_zeros}
use Rattle.std.proofs.lemmas.Nat.{and_le_l}
use Rattle.std.proofs.lemmas.Nat.Bits.{bit_at-trailing_zeros, bit_at_clear_same, bit_at_clear_other}
use Rattle.overlap_count.proofs.full_pairs.take_lowest.Goals as goal

pub returns : goal.returns
returns c =
    let word = c.args.word.now in
    let lowest = bit_at-trailing_zeros w64 word c.requires (omega arith) in
    let place = trailing_zeros w64 word in
    let mask = 18446744073709551615 - 1 * 2 ^ place % 18446744073709551616 in
    let taken : bit_at (bit_and word mask) place ≡ 0 = bit_at_clear_same w64 word place lowest.0 in
    let other : bit_and word mask ≢ word = λ same. absurd (omega (arith, taken, lowest.1, ap (λ n. bit_at n place) same)) in
    record {
      within = lowest.0;
      set = lowest.1;
      lowest = lowest.2;
      taken = taken;
      others = λ k lt ne. bit_at_clear_other w64 word place lowest.0 k lt ne;
      less = omega (arith, and_le_l word mask, other);
    }
