use Rattle.std.proofs.Common.{◌≡◌, ◌<◌, ◌≤◌, ◌^◌, length}
use Rattle.fixed_box.proofs.DigitRuns.{fraction_after}
use Rattle.fixed_box.proofs.parsing.read_fraction.Given as goal

-- what is read and what is left make the number of the whole text
abbrev pub invariant-fraction : goal.invariant-fraction
invariant-fraction l = record {
  read : fraction_after l.whole l.fraction l.scale l.count l.rest ≡ fraction_after l.whole 0 1 0 l.text;
  scale : l.scale ≡ 10 ^ l.count;
  below : l.fraction < l.scale;
  few : l.count ≤ 9;
}

abbrev pub decreases-fraction : goal.decreases-fraction
decreases-fraction l = length l.rest
