use Rattle.std.proofs.Common.{◌+◌, ◌*◌}
use Rattle.work_pieces.proofs.pieces.+counted.Given as goal

abbrev pub decreases-answer_pieces : goal.decreases-answer_pieces
decreases-answer_pieces g l = 2 * l.cut.count

abbrev pub decreases-here : goal.decreases-here
decreases-here g l = 2 * l.last + 1
