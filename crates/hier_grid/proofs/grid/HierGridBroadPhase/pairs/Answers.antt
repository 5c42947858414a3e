-- All pairs are found.
use Rattle.std.proofs.Common.{◌++◌, subst, ◌∙◌, ap}
use Rattle.broad_index.specs.Near.{near}
use Rattle.hier_grid.specs.Search.{FindsAll}
use Rattle.hier_grid.proofs.grid.HierGridBroadPhase.pairs.Goals as goal

pub returns-clause-ok : goal.returns-clause-ok
returns-clause-ok c =
    let kept = c.self.inside.kept in
    let found = c.all_pairs.new.found.pairs.items in
    let all : FindsAll kept found = subst (λ bodies. FindsAll bodies found) c.new-search.ensures c.in_ok-looked.ensures in
    c.in_ok-push_rising_pairs.ensures.near kept all ∙ ap (λ m. c.args.out.now.items ++ near m) c.self.view_is
