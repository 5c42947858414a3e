-- The digits so far, and what is left of the text, make the number that the text has between its points.
use Rattle.std.proofs.Common.{◌≡◌, ◌==◌, get_or, sym, ◌∙◌, arith}
use Rattle.std.specs.List.{slice_split}
use Rattle.fixed_box.proofs.DigitRuns.{decimal_point_at, decimal_stops_at, decimal_full_at, decimal_starts}
use Rattle.fixed_box.proofs.parsing.read_decimal.Goals as goal
use Rattle.fixed_box.proofs.parsing.read_decimal.Goals.{then-not-is_ascii_digit-via-then-not-is_ascii_digit}
use Rattle.fixed_box.proofs.parsing.read_decimal.Goals.{then-not-is_ascii_digit-via-else-not-is_ascii_digit+then-count-eq-WHOLE_DIGITS}
use Rattle.fixed_box.proofs.parsing.read_decimal.Goals.{else-byte-eq46-via-then-byte-eq46+else-count-gt0, else-byte-eq46-via-else-byte-eq46}

pub returns-then-count-gt0-clause-value : goal.returns-then-count-gt0-clause-value
returns-then-count-gt0-clause-value c =
    c.read_fraction.ensures.value
    ∙ sym (decimal_point_at c.whole.whole c.whole.count c.whole.rest.now c.in-len1-up.len_at_least c.if-byte-eq46.true c.if-count-gt0.true
    c.whole.invariant.few)
    ∙ c.whole.invariant.read ∙ sym (decimal_starts (slice_split (λ b. b == 46) c.args.text.now))

pub returns-then-not-is_ascii_digit-clause-value : goal.returns-then-not-is_ascii_digit-clause-value
returns-then-not-is_ascii_digit-clause-value c =
    let early : get_or c.whole.rest.now 0 0 ≡ 46 → c.whole.count ≡ 0 = λ e. elim c.else-byte-eq46.branch [
      | else-byte-eq46-via-then-byte-eq46+else-count-gt0 w ↦ omega arith
      | else-byte-eq46-via-else-byte-eq46 w ↦ omega arith
    ] in
    (elim c.then-not-is_ascii_digit.branch [
      | then-not-is_ascii_digit-via-then-not-is_ascii_digit w ↦ sym
          (decimal_stops_at c.whole.whole c.whole.count c.whole.rest.now c.in-len1-up.len_at_least
          (sym c.is_ascii_digit.ensures.value ∙ w.if-not-is_ascii_digit.true) early)
      | then-not-is_ascii_digit-via-else-not-is_ascii_digit+then-count-eq-WHOLE_DIGITS w ↦ sym
          (decimal_full_at c.whole.whole c.whole.count c.whole.rest.now (omega (arith, w.if-count-eq-WHOLE_DIGITS.true)) c.in-len1-up.len_at_least
          (sym c.is_ascii_digit.ensures.value ∙ w.if-not-is_ascii_digit.false))
    ])
    ∙ c.whole.invariant.read ∙ sym (decimal_starts (slice_split (λ b. b == 46) c.args.text.now))
