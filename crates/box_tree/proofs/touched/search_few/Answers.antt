-- Searches for the boxes of slots are those for the slots.
use Rattle.std.proofs.Common.{◌++◌, ◌∙◌, ap}
use Rattle.tree_search.specs.Looked.{raised}
use Rattle.tree_search.specs.Exact.{exact_in}
use Rattle.tree_search.specs.Crossed.{crossed, all_visits_in}
use Rattle.box_tree.specs.Searches.{boxed}
use Rattle.box_tree.proofs.TouchedPairs.{crossed_boxed, visits_boxed}
use Rattle.box_tree.proofs.touched.search_few.Goals as goal

pub returns-clause-ok : goal.returns-clause-ok
returns-clause-ok c =
    let bs = c.args.boxes.now.bodies in
    let o = c.args.boxes.now.tree in
    let before = c.args.found.now.pairs.items in
    c.in_ok-number.ensures.ok
    ∙ ap (λ b. before ++ crossed (exact_in b c.boxed_tree.result.tree) c.deref.result.now) c.boxed_tree.ensures.bodies
    ∙ ap (λ t. before ++ crossed (exact_in bs t) c.deref.result.now) c.boxed_tree.ensures.tree
    ∙ ap (λ es. before ++ crossed (exact_in bs o) es)
    (c.deref.ensures.value ∙ c.in_ok-push_boxes.ensures.ok ∙ ap (λ es. es ++ boxed bs c.args.slots.now) c.clear.ensures.items)
    ∙ ap (λ ps. before ++ ps) (crossed_boxed bs o c.args.slots.now)

pub returns-clause-count : goal.returns-clause-count
returns-clause-count c =
    let bs = c.args.boxes.now.bodies in
    let o = c.args.boxes.now.tree in
    c.in_ok-number.ensures.count
    ∙ ap (λ t. raised c.args.looked (all_visits_in t c.deref.result.now)) c.boxed_tree.ensures.tree
    ∙ ap (λ es. raised c.args.looked (all_visits_in o es))
    (c.deref.ensures.value ∙ c.in_ok-push_boxes.ensures.ok ∙ ap (λ es. es ++ boxed bs c.args.slots.now) c.clear.ensures.items)
    ∙ ap (raised c.args.looked) (visits_boxed bs o c.args.slots.now)
