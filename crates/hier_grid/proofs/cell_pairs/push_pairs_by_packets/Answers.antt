-- What is passed by makes no pair, and what is near is compared.
use Rattle.std.proofs.Common.{◌≡◌, ◌++◌, ◌≤◌, List, ap, sym, ◌∙◌, append-nil, append_assoc, arith}
use Rattle.broad_index.specs.declared.pair.Pair.{Pair}
use Rattle.grid_boxes.specs.declared.slot_box.SlotBox.{SlotBox}
use Rattle.grid_boxes.specs.Copies.{stretch}
use Rattle.grid_boxes.specs.StretchLaws.{stretch_parts}
use Rattle.hier_grid.specs.Listing.{met_pairs}
use Rattle.hier_grid.proofs.BucketLemmas.{met_more, none_passed}
use Rattle.hier_grid.proofs.cell_pairs.push_pairs_by_packets.Goals as goal

pub packets-preserved : goal.packets-preserved
packets-preserved c =
    let own = c.args.own.now in
    let any = c.args.any in
    let es = c.args.copies.now in
    let from = c.args.from in
    let at = c.packets.at in
    let next = c.next_near.result in
    let near = c.min-near.result in
    let end = c.min-end.result in
    let old = c.args.pairs.now.items in
    let before = c.packets.pairs.items in
    let P : List SlotBox → List Pair = met_pairs own any in
    let low : from ≤ at = c.packets.invariant.after in
    let step : at ≤ near = omega (arith, c.next_near.ensures.later) in
    let within : near ≤ next = omega arith in
    let rise : near ≤ end = omega arith in
    let passed = none_passed own any es at next near within c.next_near.ensures.passed in
    let first : P (stretch from near es) ≡ P (stretch from at es) =
    sym (ap P (stretch_parts es from at near low step)) ∙ met_more own any (stretch from at es) (stretch at near es)
    ∙ ap (λ l. P (stretch from at es) ++ l) passed ∙ append-nil (P (stretch from at es))
    in
    let whole : P (stretch from end es) ≡ P (stretch from at es) ++ P (stretch near end es) =
    sym (ap P (stretch_parts es from near end (omega arith) rise)) ∙ met_more own any (stretch from near es) (stretch near end es)
    ∙ ap (λ l. l ++ P (stretch near end es)) first
    in
    record {
      after = omega arith;
      before = omega arith;
      done = c.in_ok-push_met_pairs.ensures.ok ∙ ap (λ l. before ++ P (stretch near end l)) c.entries.ensures
          ∙ ap (λ l. l ++ P (stretch near end es)) c.packets.invariant.done
          ∙ append_assoc old (P (stretch from at es)) (P (stretch near end es))
          ∙ sym (ap (λ l. old ++ l) whole);
    }
