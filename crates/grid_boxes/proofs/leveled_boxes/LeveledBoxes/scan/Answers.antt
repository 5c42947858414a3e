-- Each box of the level stands in its stretch.
use Rattle.std.proofs.Common.{subst}
use Rattle.std.specs.Prelude.{OnOk}
use Rattle.std.proofs.lemmas.Result.{on_ok_weaker}
use Rattle.grid_cells.specs.Appended.{Appends}
use Rattle.grid_boxes.specs.Candidates.{HasMet}
use Rattle.grid_boxes.proofs.PoolLemmas.{met}
use Rattle.grid_boxes.proofs.leveled_boxes.LeveledBoxes.scan.Goals as goal

pub returns-clause-ok : goal.returns-clause-ok
returns-clause-ok c =
    let s = c.self.inside in
    let old = c.args.out.now.items in
    let new = c.scan.new.out.items in
    subst (λ m. OnOk c.scan.result (Appends (HasMet m c.args.level c.args.region.now) old new)) c.self.view_is
    (on_ok_weaker c.scan.result (met s.boxes s.pool c.args.level c.args.region.now old new c.self.invariant) c.scan.ensures.ok)
