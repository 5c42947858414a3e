-- A level with no box is passed by.
use Rattle.std.proofs.Common.{◌+◌, ◌-◌, ◌≡◌, subst, arith}
use Rattle.grid_boxes.specs.Candidates.{IsAbove}
use Rattle.grid_boxes.proofs.GridLemmas.{above_less}
use Rattle.grid_boxes.specs.LevelLaws.{low_level}
use Rattle.grid_boxes.proofs.grid_boxes.GridBoxes.levels_end.Goals as goal

pub end-init : goal.end-init
end-init c = record { bound = omega arith; above = λ q b e. low_level b }

pub end-preserved : goal.end-preserved
end-preserved c =
    let below = c.end.end - 1 in
    let is : c.end.end ≡ below + 1 = omega (arith, c.end-test.true) in
    record {
      bound = omega (arith, c.end.invariant.bound);
      above = above_less c.args.self.now below (subst (IsAbove c.args.self.now) is c.end.invariant.above) (c.has_some.ensures c.if-has_some.false);
    }
