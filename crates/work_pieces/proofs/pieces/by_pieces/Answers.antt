-- the answers of all pieces are those of the items
use Rattle.std.proofs.Common.{rules}
use Rattle.std.proofs.lemmas.Result.{IfOk-weaker}
use Rattle.work_pieces.specs.Each.{Gives}
use Rattle.work_pieces.specs.RunLaws.{runs_of_pieces}
use Rattle.work_pieces.proofs.PutTogether.{accepts_run, each_of_runs}
use Rattle.work_pieces.proofs.pieces.by_pieces.Goals as goal

pub by_runs-requires-clause-accepts : goal.by_runs-requires-clause-accepts
by_runs-requires-clause-accepts g c κs within before run after is p here =
    rw here (accepts_run g.F.Fn c.args.answer.now c.args.items.now before run after c.requires.accepts is)

pub returns : goal.returns
returns g c =
    IfOk-weaker c.joined.result _ _ (
    λ answers same. each_of_runs (Gives g.F.Fn c.args.answer.now) _ (λ list. list.items) c.args.items.now c.in_ok-found.found.items answers.items
    (λ run v e. search rules)
    (runs_of_pieces _ c.args.workers c.args.items.now c.in_ok-found.found.items c.requires.workers.0 c.in_ok-found.ensures) same
    ) c.joined.ensures
