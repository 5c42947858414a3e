-- A box of this level, or of a lower one.
use Rattle.std.proofs.Common.{◌≡◌, true, inl, inr, arith}
use Rattle.fixed_box.specs.Bounds.{level_of}
use Rattle.fixed_box.proofs.Numbers.{nat_next}
use Rattle.broad_index.specs.Members.{has_pair}
use Rattle.broad_index.specs.Touched.{ordered}
use Rattle.hier_grid.proofs.pair_search.pairs_from_level.Goals as goal

pub levels-init : goal.levels-init
levels-init c = record {
  low = omega arith;
  finds = record { sound = λ own s. s; more = λ p h. h; found = λ q b e at m other any. absurd (omega (arith, at.0, at.1)) };
}

pub pairs_on_level-requires-clause-high : goal.pairs_on_level-requires-clause-high
pairs_on_level-requires-clause-high c = omega (arith, c.levels.invariant.low, c.requires)

pub levels-preserved : goal.levels-preserved
levels-preserved c =
    let slot = c.args.own.now.slot in
    let new = c.pairs_on_level.new.found.pairs.items in
    let before = c.levels.invariant.finds in
    let here = c.in_ok-pairs_on_level.ensures in
    record {
      low = omega (arith, c.levels.invariant.low);
      finds = record {
        sound = λ own s. here.sound own (before.sound own s);
        more = λ p h. here.more p (before.more p h);
        found = λ q b e at m other any. elim (nat_next (level_of b) c.levels.level at.1) as (λ _. has_pair new (ordered slot q) ≡ true) [
          | inl lower ↦ here.more (ordered slot q) (before.found q b e (at.0, lower) m other any)
          | inr is ↦ here.found q b e is m other any
        ];
      };
    }

pub returns : goal.returns
returns c =
    let all = c.levels.invariant.finds in
    record {
      sound = all.sound;
      more = all.more;
      found = λ q b e at m other any.
          let above = c.end-level-end.ensures.above q b e in
          all.found q b e (at, omega (arith, c.levels-test.false, above)) m other any;
    }
