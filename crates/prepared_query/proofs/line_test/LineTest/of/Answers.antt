-- A segment ends where its way leads from its start.
use Rattle.std.proofs.Common.{ap}
use Rattle.ray_slabs.specs.Vector.{widened}
use Rattle.prepared_query.proofs.Lines.{segment}
use Rattle.prepared_query.proofs.line_test.LineTest.of.Goals as goal

pub new-requires-in-Between-clause-line : goal.new-requires-in-Between-clause-line
new-requires-in-Between-clause-line c =
    segment c.in-Between.seg c.in-Between.is (ap widened c.in_ok-from-in-Between.ensures.1) (ap widened c.in_ok-dir-in-Between.ensures.1)
