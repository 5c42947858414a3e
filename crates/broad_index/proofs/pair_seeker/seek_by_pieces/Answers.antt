-- a run's slots are present, and what is found belongs to the run
use Rattle.std.proofs.Common.{◌≡◌, true, rules}
use Rattle.std.proofs.lemmas.Result.{IfOk-weaker}
use Rattle.std.specs.FinMap.{contains_key}
use Rattle.work_pieces.specs.RunLaws.{All-run, InRuns-weaker, runs_of_pieces}
use Rattle.broad_index.proofs.pair_seeker.seek_by_pieces.Goals as goal

pub by_runs-requires-clause-accepts : goal.by_runs-requires-clause-accepts
by_runs-requires-clause-accepts g c κs within before run after is p here =
    rw here (All-run (λ slot. contains_key (g.K.PairSeeker.bodies c.args.index.now) slot ≡ true) c.args.slots.now before run after is c.requires.present)

pub returns : goal.returns
returns g c =
    IfOk-weaker c.by_runs.result _ _ (
    λ found in_runs. InRuns-weaker _ (λ run piece. g.K.PairSeeker.seeks c.args.index.now run piece.0.items piece.1) c.args.slots.now found.items
    (λ run piece e. search rules) (runs_of_pieces _ c.args.workers c.args.slots.now found.items c.requires.workers.0 in_runs)
    ) c.by_runs.ensures
