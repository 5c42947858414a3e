use Rattle.std.proofs.Common.{◌++◌, List, length}
use Rattle.work_pieces.specs.Each.{Each, AcceptsAll, Gives}
use Rattle.work_pieces.proofs.pieces.answers_of.Given as goal

-- whatever answers the rest completes the whole
abbrev pub invariant-items : goal.invariant-items
invariant-items g l =
    AcceptsAll g.F.Fn l.answer l.rest
    × ((ys : List _) → Each (Gives g.F.Fn l.answer) l.rest ys → Each (Gives g.F.Fn l.answer) l.items (l.answers.items ++ ys))

abbrev pub decreases-items : goal.decreases-items
decreases-items g l = length l.rest
