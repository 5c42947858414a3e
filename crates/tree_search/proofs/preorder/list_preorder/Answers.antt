-- A tree has at most so many leaves as there are slots.
use Rattle.std.proofs.Common.{◌≡◌, ◌≤◌, ◌++◌, ◌∙◌, length, ap, sym, subst, arith}
use Rattle.fixed_box.specs.declared.TheConstants.{SLOTS}
use Rattle.tree_nodes.specs.Tree.{leaves, IsTreeIn}
use Rattle.tree_search.specs.Group.{IsBelow}
use Rattle.tree_search.specs.Preorder.{preorder, preorder_in}
use Rattle.tree_search.proofs.Groups.{root_below}
use Rattle.tree_search.proofs.preorder.list_preorder.Goals as goal

pub push_preorder-requires : goal.push_preorder-requires
push_preorder-requires c =
    let b = root_below c.box_law.ensures c.args.boxes.now.tree c.args.boxes.now.bodies c.in-Some.root (sym c.root.ensures ∙ c.in-Some.is)
    c.boxed_law.ensures.tree c.boxed_law.ensures.inside in
    let few : length (leaves b.0) ≤ SLOTS = (subst IsTreeIn b.1 c.boxed_law.ensures.tree).few in
    let none : length c.clear.new.self.items ≡ 0 = ap length c.clear.ensures.items in
    let below = subst (λ o. IsBelow o c.bodies.result.now c.in-Some.root b.0) (sym c.nodes.ensures)
    (subst (λ bs. IsBelow c.args.boxes.now.tree bs c.in-Some.root b.0) (sym c.bodies.ensures) b.2) in
    (b.0, below, omega arith)

pub returns : goal.returns
returns c =
    let b = root_below c.box_law.ensures c.args.boxes.now.tree c.args.boxes.now.bodies c.in-Some.root (sym c.root.ensures ∙ c.in-Some.is)
    c.boxed_law.ensures.tree c.boxed_law.ensures.inside in
    let below = subst (λ o. IsBelow o c.bodies.result.now c.in-Some.root b.0) (sym c.nodes.ensures)
    (subst (λ bs. IsBelow c.args.boxes.now.tree bs c.in-Some.root b.0) (sym c.bodies.ensures) b.2) in
    c.in_ok-push_preorder.ensures b.0 below
    ∙ ap (λ bs. c.clear.new.self.items ++ preorder bs b.0) c.bodies.ensures
    ∙ ap (λ xs. xs ++ preorder c.args.boxes.now.bodies b.0) c.clear.ensures.items
    ∙ sym (ap (preorder_in c.args.boxes.now.bodies) b.1)
