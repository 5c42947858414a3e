-- Searches for the boxes of slots are those for the slots.
use Rattle.std.proofs.Common.{◌++◌, ◌∙◌, ap, sym, subst}
use Rattle.tree_search.specs.Looked.{raised}
use Rattle.tree_search.specs.Exact.{exact_in}
use Rattle.tree_search.specs.Crossed.{crossed, all_visits_in, Adds, AreOf}
use Rattle.box_tree.specs.Searches.{boxed}
use Rattle.tree_search.specs.Preorder.{preorder_in}
use Rattle.box_tree.proofs.SharedSlots.{list_there}
use Rattle.box_tree.proofs.TouchedPairs.{boxed_own, crossed_boxed, visits_boxed}
use Rattle.box_tree.proofs.touched.search_run.Goals as goal

pub search_groups-requires-clause-list : goal.search_groups-requires-clause-list
search_groups-requires-clause-list c =
    let k = c.args.boxes.now in
    list_there c.if_fresh.result c.in-Some.preorder c.args.listing.now.fresh c.args.listing.now.nodes.items (preorder_in k.bodies k.tree)
    c.if_fresh.ensures c.requires c.in-Some.is

pub search_groups-requires-clause-touched : goal.search_groups-requires-clause-touched
search_groups-requires-clause-touched c =
    let bs = c.args.boxes.now.bodies in
    subst (AreOf bs) (sym (c.in_ok-push_boxes.ensures.ok ∙ ap (λ es. es ++ boxed bs c.args.slots.now) c.clear.ensures.items)) (boxed_own bs c.args.slots.now)

pub returns-clause-ok : goal.returns-clause-ok
returns-clause-ok c =
    let bs = c.args.boxes.now.bodies in
    subst (Adds c.args.found.now.pairs.items c.search_groups.new.found.pairs.items)
    (ap (crossed (exact_in bs c.args.boxes.now.tree))
    (c.in_ok-push_boxes.ensures.ok ∙ ap (λ es. es ++ boxed bs c.args.slots.now) c.clear.ensures.items)
    ∙ crossed_boxed bs c.args.boxes.now.tree c.args.slots.now)
    c.in_ok-many.ensures.ok

pub returns-clause-count : goal.returns-clause-count
returns-clause-count c =
    let bs = c.args.boxes.now.bodies in
    c.in_ok-many.ensures.count
    ∙ ap (λ es. raised c.args.looked (all_visits_in c.args.boxes.now.tree es))
    (c.in_ok-push_boxes.ensures.ok ∙ ap (λ es. es ++ boxed bs c.args.slots.now) c.clear.ensures.items)
    ∙ ap (raised c.args.looked) (visits_boxed bs c.args.boxes.now.tree c.args.slots.now)
