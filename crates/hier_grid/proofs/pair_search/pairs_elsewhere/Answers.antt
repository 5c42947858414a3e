-- A partner stands at the own level, or above it.
use Rattle.std.proofs.Common.{◌≡◌, true, inl, inr, arith}
use Rattle.broad_index.specs.Members.{has_pair}
use Rattle.broad_index.specs.Touched.{ordered}
use Rattle.hier_grid.proofs.pair_search.pairs_elsewhere.Goals as goal

pub returns : goal.returns
returns c =
    let own = c.args.own.now in
    let new = c.pairs_from_level.new.found.pairs.items in
    let here = c.in_ok-pairs_after_cell.ensures in
    let above = c.in_ok-pairs_from_level.ensures in
    record {
      sound = λ own s. above.sound own (here.sound own s);
      more = λ p h. above.more p (here.more p h);
      found = λ q b e due m other any. elim due as (λ _. has_pair new (ordered own.slot q) ≡ true) [
        | inl higher ↦ above.found q b e (omega (arith, higher, c.requires.level)) m other any
        | inr later ↦ above.more (ordered own.slot q) (here.found q b e later m other any)
      ];
    }
