-- The boxes of the row stand in the two stretches.
use Rattle.std.proofs.Common.{◌≡◌, ◌++◌, true, ap, ◌∙◌, sym, subst, inl, inr, arith}
use Rattle.std.proofs.lemmas.Int.{ints}
use Rattle.broad_index.specs.Members.{has_pair}
use Rattle.broad_index.specs.Touched.{ordered}
use Rattle.grid_boxes.specs.Copies.{stretch}
use Rattle.grid_cells.specs.Cells.{IsInRow, standing_cell}
use Rattle.hier_grid.specs.Listing.{met_pairs}
use Rattle.hier_grid.specs.Search.{IsSound}
use Rattle.hier_grid.proofs.PairLemmas.{more_pairs}
use Rattle.hier_grid.proofs.BucketLemmas.{pair_met, sound_met}
use Rattle.hier_grid.proofs.cell_pairs.row_pairs.Goals as goal

pub returns-then-is_empty : goal.returns-then-is_empty
returns-then-is_empty c = record {
  sound = λ own s. s;
  more = λ p h. h;
  found = λ q b e at m other due. absurd (omega (arith, ints, c.is_empty.ensures c.if-is_empty.true, at.low, at.high));
}

pub returns : goal.returns
returns c =
    let bodies = c.args.boxes.now.bodies in
    let mine = c.args.own.now in
    let any = c.args.any in
    let row = c.row-places.ensures.whole bodies c.copied-copied.ensures.filled in
    let places = c.row-places.result in
    let es = c.copied-copied.result.now.copies in
    let first = stretch places.from places.to es in
    let rest = stretch 0 places.wrapped es in
    let old = c.args.found.now.pairs.items in
    let mid = c.push_pairs_in.new.found.pairs.items in
    let one : mid ≡ old ++ met_pairs mine any first =
    c.in_ok-push_pairs_in.ensures ∙ ap (λ l. old ++ met_pairs mine any (stretch places.from places.to l)) c.copies-copies.ensures in
    let two : c.push_pairs_in-2.new.found.pairs.items ≡ mid ++ met_pairs mine any rest =
    c.in_ok-push_pairs_in-2.ensures ∙ ap (λ l. mid ++ met_pairs mine any (stretch 0 places.wrapped l)) c.copies-copies.ensures in
    record {
      sound = λ own s. subst (IsSound bodies) (sym two) (sound_met bodies mine any rest mid row.rest_right own
          (subst (IsSound bodies) (sym one) (sound_met bodies mine any first old row.first_right own s)));
      more = λ p h. ap (λ l. has_pair l p) two ∙ more_pairs mid _ p (ap (λ l. has_pair l p) one ∙ more_pairs old _ p h);
      found = λ q b e at m other due.
          let pair = ordered mine.slot q in
          let there = subst (λ n. IsInRow c.args.row.now (standing_cell n b)) (sym c.copied-copied.ensures.floor) at in
          elim (row.whole q b e there) as (λ _. has_pair c.push_pairs_in-2.new.found.pairs.items pair ≡ true) [
            | inl i ↦ ap (λ l. has_pair l pair) two ∙ more_pairs mid _ pair (ap (λ l. has_pair l pair) one
                ∙ pair_met bodies mine any first old q b row.first_right e m other due i)
            | inr i ↦ ap (λ l. has_pair l pair) two ∙ pair_met bodies mine any rest mid q b row.rest_right e m other due i
          ];
    }
