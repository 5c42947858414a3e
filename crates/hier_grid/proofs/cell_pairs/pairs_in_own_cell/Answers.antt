-- A partner in the cell stands before the place, or from it on.
use Rattle.std.proofs.Common.{◌≡◌, ◌++◌, true, ap, ◌∙◌, sym, subst, inl, inr}
use Rattle.std.proofs.lemmas.Bool.{false≢true}
use Rattle.broad_index.specs.Members.{has_pair}
use Rattle.broad_index.specs.Touched.{ordered}
use Rattle.grid_boxes.specs.Copies.{stretch}
use Rattle.hier_grid.specs.Listing.{met_pairs}
use Rattle.hier_grid.specs.Search.{IsSound}
use Rattle.hier_grid.proofs.PairLemmas.{more_pairs}
use Rattle.hier_grid.proofs.BucketLemmas.{pair_met, right_stretch, sound_met}
use Rattle.hier_grid.proofs.cell_pairs.pairs_in_own_cell.Goals as goal

pub returns : goal.returns
returns c bodies filled =
    let mine = c.args.own.now in
    let es = c.args.copied.now.copies in
    let from = c.args.from in
    let end = c.cell_end-end.result in
    let old = c.args.found.now.pairs.items in
    let there = stretch from end es in
    let right = right_stretch bodies es from end filled.right in
    let is : c.push_pairs_in.new.found.pairs.items ≡ old ++ met_pairs mine true there =
    c.in_ok-push_pairs_in.ensures ∙ ap (λ l. old ++ met_pairs mine true (stretch from end l)) c.copies.ensures in
    record {
      sound = λ own s. subst (IsSound bodies) (sym is) (sound_met bodies mine true there old right own s);
      more = λ p h. ap (λ l. has_pair l p) is ∙ more_pairs old _ p h;
      found = λ q b e at m other due.
          let pair = ordered mine.slot q in
          elim (c.cell_end-end.ensures.whole bodies filled q b e at.0) as (λ _. has_pair c.push_pairs_in.new.found.pairs.items pair ≡ true) [
            | inl i ↦ absurd (false≢true (sym at.1 ∙ i))
            | inr i ↦ ap (λ l. has_pair l pair) is ∙ pair_met bodies mine true there old q b right e m other due i
          ];
    }
