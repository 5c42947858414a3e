use Rattle.std.proofs.Common.{length}
use Rattle.play_tests.proofs.faults.lines_before.Given as goal

abbrev pub decreases-bytes : goal.decreases-bytes
decreases-bytes l = length l.rest
