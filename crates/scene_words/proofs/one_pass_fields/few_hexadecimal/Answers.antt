-- Each digit makes the number of those before it and itself. Eight fit 32 bits.
use Rattle.std.proofs.Common.{ℕ, ◌+◌, ◌*◌, ◌^◌, ◌<◌, arith}
use Rattle.scene_words.proofs.Numerals.{small_more, small_most, value_more, digits_more}
use Rattle.scene_words.proofs.one_pass_fields.few_hexadecimal.Goals as goal

-- the digits so far and one more fit 32 bits
room : (value digit n : ℕ) → digit < 16 → value < 16 ^ n → n < 8 → value * 16 + digit < 2 ^ 32
room value digit n below small few = omega (arith, small_more value 16 digit n (omega arith) below small, small_most (n + 1) 8 (omega arith))

pub overflow_mul-value : goal.overflow_mul-value
overflow_mul-value c =
    let below : c.in-Some.digit < 16 = omega (arith, c.in-Some.ensures.value) in
    omega (arith, room c.digits.value c.in-Some.digit c.digits.len below c.digits.invariant.small (omega (arith, c.min-most.ensures)))

pub overflow_add-value : goal.overflow_add-value
overflow_add-value c =
    let below : c.in-Some.digit < 16 = omega (arith, c.in-Some.ensures.value) in
    omega (arith, room c.digits.value c.in-Some.digit c.digits.len below c.digits.invariant.small (omega (arith, c.min-most.ensures)))

pub digits-preserved : goal.digits-preserved
digits-preserved c =
    let below : c.in-Some.digit < 16 = omega (arith, c.in-Some.ensures.value) in
    record {
      value = value_more 16 c.digits.value c.in-Some.digit c.from.result c.digits.len c.args.line.now (omega (arith, c.min-most.ensures)) c.from.ensures
          c.in-Some.ensures.value.1 c.digits.invariant.value;
      digits = digits_more 16 c.from.result c.digits.len c.args.line.now (omega (arith, c.min-most.ensures)) c.from.ensures c.in-Some.ensures.value.0
          c.digits.invariant.digits;
      within = omega arith;
      small = small_more c.digits.value 16 c.in-Some.digit c.digits.len (omega arith) below c.digits.invariant.small;
    }
