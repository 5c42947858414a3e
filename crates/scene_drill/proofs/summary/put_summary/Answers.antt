-- The tally is that of the report's lines, and its rows are the summary.
use Rattle.scene_drill.specs.Tally.{tally_of}
use Rattle.scene_drill.proofs.summary.put_summary.Goals as goal

pub returns-else-is_err-clause-ok : goal.returns-else-is_err-clause-ok
unfolding tally_of
returns-else-is_err-clause-ok c = rw c.tally_of-tally.ensures at c.push_tally-put.ensures.ok
