-- In whichever order the touched slots come, the same pairs are found.
use Rattle.std.proofs.Common.{◌++◌, ◌∙◌, ap}
use Rattle.std.proofs.lemmas.List.Folds.{list_any-append}
use Rattle.broad_index.specs.Members.{has_pair, same_pair}
use Rattle.broad_index.specs.Touched.{gathered_with}
use Rattle.tree_search.specs.Looked.{raised}
use Rattle.tree_search.specs.Crossed.{touched_of, all_visits_in}
use Rattle.tree_search.specs.Preorder.{listed}
use Rattle.box_tree.specs.Searches.{searches, sought_from}
use Rattle.box_tree.proofs.SharedSlots.{renewed_run, renewed_along, along_own, sought_marked}
use Rattle.box_tree.proofs.TouchedSums.{touched_total}
use Rattle.box_tree.proofs.touched.search_touched.Goals as goal

pub returns-then-len-lt-FEWEST_GROUPED-clause-ok : goal.returns-then-len-lt-FEWEST_GROUPED-clause-ok
returns-then-len-lt-FEWEST_GROUPED-clause-ok c kept are =
    let s = c.kept_law.ensures.kept in
    let o = c.args.boxes.now.tree in
    let bs = c.args.boxes.now.bodies in
    let slots = sought_from c.args.marks.now 0 bs in
    renewed_run o bs c.args.boxes.now.fats s c.args.marks.now c.holding_laws.ensures.reach c.keeping_laws.ensures.renewing
    slots c.clear.new.self.items c.search_few.new.found.pairs.items (sought_marked o bs c.args.boxes.now.fats s c.args.marks.now) c.clear.ensures.items
    (λ p. ap (λ ps. has_pair ps p) (c.in_ok-few.ensures.ok
    ∙ ap (λ l. c.clear.new.self.items ++ gathered_with (searches bs o l)) (c.deref.ensures.value ∙ c.in_ok-push_sought.ensures.ok
    ∙ ap (sought_from c.args.marks.now 0) c.bodies.ensures))
    ∙ list_any-append (same_pair p) c.clear.new.self.items (gathered_with (searches bs o slots)))
    kept are

pub search_groups-requires-clause-touched : goal.search_groups-requires-clause-touched
search_groups-requires-clause-touched c =
    let s = c.kept_law.ensures.kept in
    let marks = c.args.marks.now in
    along_own c.args.boxes.now.tree c.args.boxes.now.bodies c.args.boxes.now.fats s marks c.push_marked.new.out.items
    (c.in_ok-push_marked.ensures.ok ∙ ap (λ es. es ++ touched_of marks (listed c.deref-2.result.now)) c.clear-3.ensures.items
    ∙ ap (λ l. touched_of marks (listed l)) (c.deref-2.ensures.value ∙ c.in_ok-refresh.ensures.nodes)
    ∙ ap (touched_of marks) (c.listing_law.ensures c.args.boxes.now.bodies c.args.boxes.now.tree))

pub returns-clause-ok : goal.returns-clause-ok
returns-clause-ok c =
    let s = c.kept_law.ensures.kept in
    let marks = c.args.marks.now in
    renewed_along c.args.boxes.now.tree c.args.boxes.now.bodies c.args.boxes.now.fats s marks c.holding_laws.ensures.reach c.keeping_laws.ensures.renewing
    c.push_marked.new.out.items c.clear.new.self.items c.search_groups.new.found.pairs.items
    (c.in_ok-push_marked.ensures.ok ∙ ap (λ es. es ++ touched_of marks (listed c.deref-2.result.now)) c.clear-3.ensures.items
    ∙ ap (λ l. touched_of marks (listed l)) (c.deref-2.ensures.value ∙ c.in_ok-refresh.ensures.nodes)
    ∙ ap (touched_of marks) (c.listing_law.ensures c.args.boxes.now.bodies c.args.boxes.now.tree))
    c.clear.ensures.items c.in_ok-many.ensures.ok

pub returns-clause-count : goal.returns-clause-count
returns-clause-count c =
    let s = c.kept_law.ensures.kept in
    let marks = c.args.marks.now in
    c.in_ok-many.ensures.count
    ∙ ap (λ es. raised c.args.looked (all_visits_in c.args.boxes.now.tree es))
    (c.in_ok-push_marked.ensures.ok ∙ ap (λ es. es ++ touched_of marks (listed c.deref-2.result.now)) c.clear-3.ensures.items
    ∙ ap (λ l. touched_of marks (listed l)) (c.deref-2.ensures.value ∙ c.in_ok-refresh.ensures.nodes)
    ∙ ap (touched_of marks) (c.listing_law.ensures c.args.boxes.now.bodies c.args.boxes.now.tree))
    ∙ ap (raised c.args.looked) (touched_total c.args.boxes.now.tree c.args.boxes.now.bodies c.args.boxes.now.fats s marks)
