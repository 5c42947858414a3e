-- What the descent finds is what the map has.
use Rattle.std.proofs.Common.{◌≡◌, ◌++◌, ◌∙◌, ap, arith, length, take}
use Rattle.std.proofs.Math.Seq.{take-append_seam}
use Rattle.broad_index.specs.Found.{found, found_of}
use Rattle.tree_search.specs.Exact.{exact_in}
use Rattle.tree_search.specs.Visits.{visits_by_in}
use Rattle.box_tree.specs.Boxes.{Boxes}
use Rattle.box_tree.proofs.Searching.{found_viewed}
use Rattle.box_tree.proofs.tree.BoxTree.hits_told.Goals as goal

pub returns-in-Ok-clause-ok : goal.returns-in-Ok-clause-ok
returns-in-Ok-clause-ok c =
    let s = c.self.inside in
    let old = c.args.out.now.items in
    let now = c.push_hits.new.out.items in
    let query = c.args.query.now in
    let hits = found_of (exact_in s.boxes.bodies s.boxes.tree) query in
    let is : now ≡ old ++ hits =
    c.in-Ok.ensures.ok ∙ ap (λ bs. old ++ found_of (exact_in bs c.boxed_tree.result.tree) query) c.boxed_tree.ensures.bodies
    ∙ ap (λ t. old ++ found_of (exact_in s.boxes.bodies t) query) c.boxed_tree.ensures.tree in
    let at : c.len-before.result ≡ length old = omega (arith, c.args.out.now.ok.0, c.len-before.ensures) in
    c.settle_slots_from.ensures.found c.args.self.now.bodies query
    (found_viewed s.boxes.tree s.boxes.bodies s.boxes.fats c.kept_law.ensures.kept s.marks c.args.self.now s.looked c.self.view_is
    c.holding_laws.ensures.found query old now c.len-before.result at is)
    ∙ ap (λ l. l ++ found c.args.self.now.bodies query)
    (ap (λ n. take n now) at ∙ ap (take (length old)) is ∙ take-append_seam old hits)

pub returns-in-Ok-clause-count : goal.returns-in-Ok-clause-count
returns-in-Ok-clause-count c =
    let query = c.args.query.now in
    c.in-Ok.ensures.count ∙ ap (λ t. visits_by_in t query) c.boxed_tree.ensures.tree
    ∙ ap (λ (b : Boxes). visits_by_in b.tree query) c.self.view_is
