-- An empty mask has no place.
use Rattle.std.proofs.Common.{◌≡◌, sym, ◌∙◌, arith}
use Rattle.fixed_box.specs.Bounds.{meets}
use Rattle.lane_boxes.proofs.Masks.{empty_mask}
use Rattle.lane_boxes.proofs.columns.Columns.next_mask.Goals as goal

pub eights-preserved : goal.eights-preserved
eights-preserved c =
    let empty : c.full_mask-mask.result ≡ 0 = omega arith in
    let none = sym c.full_mask-mask.ensures ∙ empty in
    record {
      later = omega arith;
      within = omega (arith, c.len.ensures);
      near = omega arith;
      passed = c.eights.invariant.passed ∙ sym (empty_mask (meets c.args.body.now) c.eights.at c.args.self.now.boxes none);
    }
