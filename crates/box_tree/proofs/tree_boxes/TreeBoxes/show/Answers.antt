-- The leaves have the entries of the map, each once, in another order.
use Rattle.std.proofs.Common.{◌≡◌, ◌++◌, ◌∙◌, sym, ap, subst}
use Rattle.std.specs.List.Sorted.{IsPermutation}
use Rattle.std.specs.FinMap.{entries}
use Rattle.std.proofs.lemmas.Result.{on_ok_weaker}
use Rattle.std.proofs.lemmas.List.Sorted.{IsPermutation-append, IsPermutation-refl, IsPermutation-sym}
use Rattle.slot_lists.specs.SlotMap.{map_of}
use Rattle.tree_search.specs.Exact.{exact_in}
use Rattle.box_tree.proofs.LeafCounts.{exact_counted}
use Rattle.box_tree.proofs.tree_boxes.TreeBoxes.show.Goals as goal

pub returns-clause-seen : goal.returns-clause-seen
returns-clause-seen g c =
    let s = c.args.self.now in
    let kept = c.kept_law.ensures.kept in
    let es = exact_in s.bodies s.tree in
    let once : IsPermutation (entries (map_of s.bodies)) es =
    c.holding_laws.ensures.once (map_of s.bodies) es c.kept_law.ensures.held (exact_counted s.tree s.bodies s.fats kept.leafed kept.fat kept.bodies_len) in
    let same : exact_in c.boxed_tree.result.bodies c.boxed_tree.result.tree ≡ es = λ i. exact_in (c.boxed_tree.ensures.bodies i) (c.boxed_tree.ensures.tree i) in
    on_ok_weaker c.show_boxes.result (λ shown seen before.
    g.met.V.Visitor.any_order c.show_boxes.new.visitor (seen ++ es) (seen ++ entries (map_of s.bodies))
    (IsPermutation-append seen seen es (entries (map_of s.bodies)) (IsPermutation-refl seen) (IsPermutation-sym (entries (map_of s.bodies)) es once))
    (subst (λ l. g.V.Visitor.saw c.show_boxes.new.visitor (seen ++ l)) same (shown seen before))) c.show_boxes.ensures.seen
