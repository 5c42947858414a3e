use Rattle.std.proofs.Common.{◌≡◌, ◌<◌, ◌≤◌, ◌^◌, length, ◌==◌}
use Rattle.std.specs.List.{slice_split}
use Rattle.fixed_box.proofs.DigitRuns.{decimal_after}
use Rattle.fixed_box.proofs.parsing.read_decimal.Given as goal

-- what is read and what is left make the number of the whole text
abbrev pub invariant-whole : goal.invariant-whole
invariant-whole l = record {
  read : decimal_after l.whole l.count (slice_split (λ b. b == 46) l.rest) ≡ decimal_after 0 0 (slice_split (λ b. b == 46) l.text);
  below : l.whole < 10 ^ l.count;
  few : l.count ≤ 10;
}

abbrev pub decreases-whole : goal.decreases-whole
decreases-whole l = length l.rest
