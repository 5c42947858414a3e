-- The laws of boxes, along the tree.
use Rattle.tree_nodes.proofs.Heights.{enough, low, some_leaf}
use Rattle.tree_nodes.proofs.LeafViews.{leaf_viewed}
use Rattle.tree_nodes.proofs.TreeLaws.{Enclosing, enclosed, met, missed, viewed_inside, within_itself, deeper, children_within, balanced_within, shown_within}
use Rattle.tree_nodes.proofs.laws.tree_laws.Goals.{After-box_laws}
use Rattle.tree_nodes.proofs.laws.tree_laws.Goals as goal

enclosing : After-box_laws → Enclosing
enclosing c =
    let laws = c.box_laws.ensures in
    record { itself = laws.itself; chain = laws.chain; this = laws.hull_this; that = laws.hull_that; met = laws.met }

pub returns-clause-enclosed : goal.returns-clause-enclosed
returns-clause-enclosed c = enclosed (enclosing c)

pub returns-clause-met : goal.returns-clause-met
returns-clause-met c = met (enclosing c)

pub returns-clause-missed : goal.returns-clause-missed
returns-clause-missed c = missed (enclosing c)

pub returns-clause-viewed : goal.returns-clause-viewed
returns-clause-viewed c = viewed_inside (enclosing c)

pub returns-clause-some : goal.returns-clause-some
returns-clause-some c = some_leaf

pub returns-clause-fewest : goal.returns-clause-fewest
returns-clause-fewest c = enough

pub returns-clause-height : goal.returns-clause-height
returns-clause-height c = low

pub returns-clause-within : goal.returns-clause-within
returns-clause-within c = balanced_within

pub returns-clause-shown : goal.returns-clause-shown
returns-clause-shown c = shown_within

pub returns-clause-leaf : goal.returns-clause-leaf
returns-clause-leaf c t x in_leaves apart = leaf_viewed t x apart in_leaves

pub returns-clause-itself : goal.returns-clause-itself
returns-clause-itself c = within_itself

pub returns-clause-deeper : goal.returns-clause-deeper
returns-clause-deeper c = deeper

pub returns-clause-children : goal.returns-clause-children
returns-clause-children c = children_within
