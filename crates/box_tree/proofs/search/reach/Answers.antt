-- The descent is that of the slot's box.
use Rattle.std.proofs.Common.{◌≡◌, ◌∙◌, sym, ap, None, Some, slice_index_or}
use Rattle.tree_nodes.specs.Tree.{visits_in}
use Rattle.box_tree.specs.Boxes.{visits_for}
use Rattle.box_tree.proofs.search.reach.Goals as goal

pub returns-clause-count : goal.returns-clause-count
returns-clause-count c =
    let here : slice_index_or c.args.boxes.now.bodies c.args.slot None ≡ Some c.in-Some.body = sym c.box_of.ensures.listed ∙ c.in-Some.is in
    c.in_ok-count.ensures.count ∙ ap (λ t. visits_in t c.in-Some.body) c.boxed_tree.ensures.tree
    ∙ sym (ap (visits_for c.args.boxes.now.tree) here)
