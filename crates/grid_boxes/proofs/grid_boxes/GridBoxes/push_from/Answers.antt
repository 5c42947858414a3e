-- A box of this level, or of a lower one.
use Rattle.std.proofs.Common.{arith}
use Rattle.grid_cells.specs.AppendLaws.{anyway, begins, fewer_where, none_where, stays_on}
use Rattle.grid_boxes.proofs.GridLemmas.{one_more_level}
use Rattle.grid_boxes.proofs.grid_boxes.GridBoxes.push_from.Goals as goal

pub levels-init : goal.levels-init
levels-init c = none_where _ _ _ (λ q b e m. omega (arith, m.0, m.1.0))

pub levels-preserved : goal.levels-preserved
levels-preserved c = one_more_level _ _ _ _ _ _ _ (λ b m. m.1) c.levels.invariant c.in_ok-push_level.ensures.ok

pub returns-clause-ok : goal.returns-clause-ok
returns-clause-ok c = fewer_where _ _ _ _ _ (λ q b e m. (omega (arith, c.levels-test.false, m.0), m.1)) c.levels.invariant

pub returns-in_err-push_level-clause-err : goal.returns-in_err-push_level-clause-err
returns-in_err-push_level-clause-err c = anyway _ (stays_on _ _ _ (begins _ _ _ c.levels.invariant) c.in_err-push_level.ensures.err)
