-- The marked leaves are the touched entries.
use Rattle.std.proofs.Common.{◌++◌, ◌∙◌, ap, rules}
use Rattle.box_tree.specs.Searches.{marked_leaf}
use Rattle.box_tree.proofs.MarkedLeaves.{marked_listed}
use Rattle.box_tree.proofs.marked.push_marked.Goals as goal

pub returns-clause-ok : goal.returns-clause-ok
returns-clause-ok c =
    c.in_ok-push_filter_mapped.ensures.ok (marked_leaf c.args.marks.now) (λ item r post. search rules)
    ∙ ap (λ es. c.args.out.now.items ++ es) (marked_listed c.args.marks.now c.args.preorder.now)
