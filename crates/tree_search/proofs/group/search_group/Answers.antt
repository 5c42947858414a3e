-- Each of the group looks at the top, and then below it.
use Rattle.std.proofs.Common.{◌∙◌, ap, length}
use Rattle.tree_search.specs.Looked.{raised}
use Rattle.tree_search.specs.Group.{all_below}
use Rattle.tree_search.proofs.Counts.{raised_again}
use Rattle.tree_search.proofs.group.search_group.Goals as goal

pub returns-clause-count : goal.returns-clause-count
returns-clause-count c bodies t i =
    c.in_ok-all.ensures.count bodies t i
    ∙ ap (λ n. raised n (all_below t c.args.group.now)) c.saturating_add-here.ensures
    ∙ raised_again c.args.looked (length c.args.group.now) (all_below t c.args.group.now)
