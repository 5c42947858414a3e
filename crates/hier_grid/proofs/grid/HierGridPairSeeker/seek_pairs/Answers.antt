-- A search's pairs stay, in another order.
use Rattle.std.proofs.Common.{subst}
use Rattle.hier_grid.specs.Search.{FindsRun}
use Rattle.hier_grid.proofs.RunLemmas.{settled_finds}
use Rattle.hier_grid.proofs.grid.HierGridPairSeeker.seek_pairs.Goals as goal

pub returns : goal.returns
returns c =
    let pairs = c.settle_pairs.new.pairs.items in
    let slots = c.args.slots.now in
    let found = c.pairs_of_run.new.found.pairs.items in
    let run = subst (λ bodies. FindsRun bodies slots found) c.new-search.ensures c.in_ok-looked.ensures in
    subst (λ bodies. FindsRun bodies slots pairs) c.self.view_is (settled_finds c.self.inside.kept slots found pairs c.settle_pairs.ensures.members run)
