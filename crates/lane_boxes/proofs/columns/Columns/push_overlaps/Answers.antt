-- Each mask appends the places of the next eight boxes.
use Rattle.std.proofs.Common.{◌+◌, ◌^◌, ◌++◌, drop, append_assoc, ap, sym, ◌∙◌, arith}
use Rattle.std.proofs.lemmas.Grind.{common_steps}
use Rattle.fixed_box.specs.Bounds.{meets}
use Rattle.lane_boxes.specs.Bits.{set_places}
use Rattle.lane_boxes.specs.Places.{places, next_eight}
use Rattle.lane_boxes.proofs.Masks.{mask_before, mask_within, scanned}
use Rattle.lane_boxes.proofs.columns.Columns.push_overlaps.Goals as goal

pub push_places-requires-clause-small : goal.push_places-requires-clause-small
push_places-requires-clause-small c =
    let mask = c.next_mask-block.ensures.mask (omega arith) in
    rw mask (mask_within (meets c.args.body.now) c.next_mask-block.result.0 (2 ^ 32) c.args.self.now.boxes c.next_mask-block.ensures.bound c.requires.few)

pub hits-preserved : goal.hits-preserved
hits-preserved c =
    let test = meets c.args.body.now in
    let boxes = c.args.self.now.boxes in
    let at = c.next_mask-block.result.0 in
    let mask = c.next_mask-block.ensures.mask (omega arith) in
    let more = rw mask at c.in_ok-push_places.ensures.ok in
    record {
      after = omega (arith, c.next_mask-block.ensures.later);
      near = omega arith;
      whole =
          rw more
          (append_assoc c.hits.out.items (set_places 8 at (next_eight test at boxes)) (places test (at + 8) (drop (at + 8) boxes))
          ∙ ap (λ l. c.hits.out.items ++ l) (mask_before test at boxes ∙ sym c.next_mask-block.ensures.passed)
          ∙ c.hits.invariant.whole);
      kept = rw more (grind (arith, common_steps));
    }

pub returns-then-block-to-clause-ok : goal.returns-then-block-to-clause-ok
returns-then-block-to-clause-ok c =
    let test = meets c.args.body.now in
    let boxes = c.args.self.now.boxes in
    let next = c.next_mask-block.ensures in
    scanned test c.args.from c.args.to c.next_mask-block.result.0 boxes c.args.out.now.items c.hits.out.items (omega (arith, next.later)) (omega arith)
    next.near (ap (λ l. c.hits.out.items ++ l) (sym next.passed) ∙ c.hits.invariant.whole)

pub returns-clause-ok : goal.returns-clause-ok
returns-clause-ok c =
    scanned (meets c.args.body.now) c.args.from c.args.to c.hits.at c.args.self.now.boxes c.args.out.now.items c.hits.out.items c.hits.invariant.after
    (omega arith) c.hits.invariant.near c.hits.invariant.whole
