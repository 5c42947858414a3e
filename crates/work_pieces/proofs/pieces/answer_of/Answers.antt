-- a piece is a run
use Rattle.std.proofs.Common.{refl}
use Rattle.work_pieces.proofs.PutTogether.{accepts_chunk}
use Rattle.work_pieces.proofs.pieces.answer_of.Goals as goal

pub answer-requires : goal.answer-requires
answer-requires g c =
    accepts_chunk g.F.Fn c.args.answer.now c.args.items.now c.piece_at.result.now c.args.size c.args.number
    c.requires.accepts c.piece_at.ensures c.piece_at.result refl
