-- the answer of the last piece is put behind those before it
use Rattle.std.proofs.Common.{◌-◌, arith}
use Rattle.std.proofs.lemmas.Result.{IfOk-at_ok}
use Rattle.std.specs.Fork.{slice_chunk}
use Rattle.work_pieces.specs.Each.{Each, Gives}
use Rattle.work_pieces.specs.Runs.{chunks_to}
use Rattle.work_pieces.proofs.PutTogether.{last_piece}
use Rattle.work_pieces.proofs.pieces.+counted.Goals as goal

pub returns : goal.returns
returns g t c =
    let gives = Gives g.F.Fn c.args.answer.now in
    let last = c.args.cut.count - 1 in
    last_piece gives c.args.cut.size c.args.items.now c.args.cut.count last
    c.in_ok-all.all.items c.push.new.self.items c.in_ok-one.field-0 (omega arith)
    (IfOk-at_ok (λ answers. Each gives (chunks_to c.args.cut.size c.args.items.now last) answers.items) c.in_ok-all.was c.join-one.ensures.second)
    (IfOk-at_ok (λ found. gives (slice_chunk c.args.items.now c.args.cut.size last) found) c.in_ok-one.was c.join-one.ensures.first)
    c.in_ok-push.ensures.items
