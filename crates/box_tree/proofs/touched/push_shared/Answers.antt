-- The slots come in the order of their leaves.
use Rattle.std.proofs.Common.{◌≡◌, ℕ, map, ◌++◌, ◌≤◌, ◌∙◌, ap, sym, subst, length}
use Rattle.fixed_box.specs.declared.TheConstants.{SLOTS}
use Rattle.fixed_box.specs.Bounds.{Bounds}
use Rattle.tree_search.specs.Crossed.{touched_of}
use Rattle.tree_search.specs.Preorder.{listed, preorder_in}
use Rattle.box_tree.proofs.SharedSlots.{along_is, list_there, shared_few}
use Rattle.box_tree.proofs.touched.push_shared.Goals as goal

pub returns-clause-ok : goal.returns-clause-ok
returns-clause-ok c =
    let marks = c.args.marks.now in
    let k = c.args.boxes.now in
    c.in_ok-push_marked_slots-2.ensures.ok
    ∙ ap (λ l. l ++ map (λ (e : ℕ × Bounds). e.0) (touched_of marks (listed c.deref.result.now))) c.requires.empty
    ∙ ap (λ l. map (λ (e : ℕ × Bounds). e.0) (touched_of marks (listed l))) (c.deref.ensures.value ∙ c.in_ok-list_nodes.ensures)
    ∙ ap (λ es. map (λ (e : ℕ × Bounds). e.0) (touched_of marks es)) (c.listing_law.ensures k.bodies k.tree)
    ∙ sym (along_is k.tree k.bodies k.fats c.kept_law.ensures.kept marks)

pub returns-clause-few : goal.returns-clause-few
returns-clause-few c =
    subst (λ l. length l ≤ SLOTS) (sym (returns-clause-ok c)) (shared_few c.args.boxes.now.tree c.kept_law.ensures.kept.leafed.is_tree c.args.marks.now)

pub returns-in-Some-clause-ok : goal.returns-in-Some-clause-ok
returns-in-Some-clause-ok c =
    let marks = c.args.marks.now in
    let k = c.args.boxes.now in
    let there : c.in-Some.list.now ≡ preorder_in k.bodies k.tree =
    list_there c.if_fresh.result c.in-Some.list c.args.listing.now.fresh c.args.listing.now.nodes.items (preorder_in k.bodies k.tree)
    c.if_fresh.ensures c.requires.listed c.in-Some.is in
    c.in_ok-push_marked_slots.ensures.ok
    ∙ ap (λ l. l ++ map (λ (e : ℕ × Bounds). e.0) (touched_of marks (listed c.in-Some.list.now))) c.requires.empty
    ∙ ap (λ l. map (λ (e : ℕ × Bounds). e.0) (touched_of marks (listed l))) there
    ∙ ap (λ es. map (λ (e : ℕ × Bounds). e.0) (touched_of marks es)) (c.listing_law.ensures k.bodies k.tree)
    ∙ sym (along_is k.tree k.bodies k.fats c.kept_law.ensures.kept marks)

pub returns-in-Some-clause-few : goal.returns-in-Some-clause-few
returns-in-Some-clause-few c =
    subst (λ l. length l ≤ SLOTS) (sym (returns-in-Some-clause-ok c))
    (shared_few c.args.boxes.now.tree c.kept_law.ensures.kept.leafed.is_tree c.args.marks.now)
