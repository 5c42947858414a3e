-- A line more is done, and as many bytes less are to come.
use Rattle.std.proofs.Common.{◌≡◌, ◌+◌, ◌-◌, ◌∷◌, length, arith, sym, ap, ◌∙◌}
use Rattle.scene_drill.specs.Summary.{lines}
use Rattle.scene_drill.specs.Tally.{plus, tally_of}
use Rattle.scene_drill.proofs.Tallies.{plus-none, none-within, line_done, more-within}
use Rattle.scene_drill.proofs.tally.tally_of.Goals as goal

pub lines-init : goal.lines-init
lines-init c = record {
  sums = plus-none (tally_of (lines c.args.report.now));
  within = none-within (length c.args.report.now - length c.args.report.now);
  left = omega arith;
}

pub lines-preserved : goal.lines-preserved
lines-preserved c =
    let line = c.cut.result.0.now in
    let after = c.in-Some.after.now in
    let pieces : lines c.lines.rest.now ≡ line ∷ lines after = rw c.in-Some.is at c.cut.ensures.pieces in
    let size : length line + 1 + length after ≡ length c.lines.rest.now = rw c.in-Some.is at c.cut.ensures.length in
    record {
      sums = ap (λ t. plus t (tally_of (lines after))) c.with_line-tally.ensures ∙ line_done c.lines.tally line (lines after)
          ∙ ap (λ ls. plus c.lines.tally (tally_of ls)) (sym pieces) ∙ c.lines.invariant.sums;
      within = rw c.with_line-tally.ensures
          (more-within c.lines.tally line (length c.args.report.now - length c.lines.rest.now) (length c.args.report.now - length after)
          c.lines.invariant.within (omega (arith, size, c.lines.invariant.left)));
      left = omega (arith, size, c.lines.invariant.left);
    }
