use Rattle.std.proofs.Common.{◌≡◌, ◌-◌, ◌≤◌, length}
use Rattle.scene_drill.specs.Summary.{lines}
use Rattle.scene_drill.specs.Tally.{IsWithin, plus, tally_of}
use Rattle.scene_drill.proofs.tally.tally_of.Given as goal

abbrev pub invariant-lines : goal.invariant-lines
invariant-lines l = record {
  sums : plus l.tally (tally_of (lines l.rest)) ≡ tally_of (lines l.report);
  within : IsWithin (length l.report - length l.rest) l.tally;
  left : length l.rest ≤ length l.report;
}

abbrev pub decreases-lines : goal.decreases-lines
decreases-lines l = length l.rest
