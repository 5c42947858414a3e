-- Boxes of lower levels stand at the floor, and the others above it.
use Rattle.std.proofs.Common.{◌≡◌, true, inl, inr, arith}
use Rattle.std.proofs.lemmas.Bool.{cases_lt}
use Rattle.fixed_box.specs.Bounds.{level_of}
use Rattle.broad_index.specs.Members.{has_pair}
use Rattle.broad_index.specs.Touched.{ordered}
use Rattle.hier_grid.proofs.due_pairs.pairs_of_raised.Goals as goal

pub returns : goal.returns
returns c =
    let own = c.args.own.now in
    let new = c.pairs_from_level.new.found.pairs.items in
    let floor = c.copied.result.now.floor in
    let is = c.copied.ensures.floor in
    let low = c.in_ok-pairs_beside.ensures in
    let high = c.in_ok-pairs_from_level.ensures in
    record {
      sound = λ here s. high.sound here (low.sound here s);
      more = λ p h. high.more p (low.more p h);
      found = λ q b e due m other any. elim (cases_lt floor (level_of b)) as (λ _. has_pair new (ordered own.slot q) ≡ true) [
        | inl above ↦ high.found q b e (omega (arith, above)) m other any
        | inr below ↦ high.more (ordered own.slot q) (low.found q b e (omega (arith, below, is)) m other any)
      ];
    }
