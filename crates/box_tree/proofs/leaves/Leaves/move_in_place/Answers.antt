-- The leaf that has another box is the slot's.
use Rattle.std.proofs.Common.{◌≡◌, ◌∙◌, arith, ap, set, subst, get_or, map, None, Some, is_some}
use Rattle.tree_nodes.specs.Moved.{leaf_moved}
use Rattle.tree_nodes.specs.Tree.{leaves_in}
use Rattle.box_tree.proofs.LeafTies.{fats_moved, numbered, own_of, tied_moved, Own}
use Rattle.box_tree.proofs.leaves.Leaves.move_in_place.Goals.{After-index, After-move_leaf}
use Rattle.box_tree.proofs.leaves.Leaves.move_in_place.Goals as goal

pub index-requires : goal.index-requires
index-requires c =
    let s = c.self.inside in
    let l = numbered s.nodes s.numbers.items c.self.invariant c.args.slot (ap (λ l. is_some (get_or l.fats c.args.slot None)) c.self.view_is ∙ c.requires) in
    omega (arith, s.numbers.ok.0, l)

own : (c : After-index) → Own (c.self.inside).nodes (c.self.inside).numbers.items c.args.slot c.index.result.now
own c =
    let s = c.self.inside in
    own_of s.nodes s.numbers.items c.self.invariant c.args.slot c.index.result.now
    (ap (λ l. is_some (get_or l.fats c.args.slot None)) c.self.view_is ∙ c.requires) c.index.ensures c.tree_laws.ensures.leaf

pub move_leaf-requires : goal.move_leaf-requires
move_leaf-requires c = let o = own (goal.at.move_leaf-requires c).After-index in (c.args.slot, o.fat, o.viewed)

moved : (c : After-move_leaf) → Own (c.self.inside).nodes (c.self.inside).numbers.items c.args.slot c.index.result.now
    → leaves_in c.move_leaf.new.self ≡ map (leaf_moved (get_or (c.self.inside).numbers.items c.args.slot 0) c.args.fat) (leaves_in (c.self.inside).nodes)
moved c o =
    subst (λ n. leaves_in c.move_leaf.new.self ≡ map (leaf_moved n c.args.fat) (leaves_in (c.self.inside).nodes)) o.node_is c.move_leaf.ensures.leaves

pub invariant_of-self : goal.invariant_of-self
invariant_of-self c =
    let p = goal.at.invariant_of-self c in
    let s = c.self.inside in
    let o = own p.After-index in
    tied_moved s.nodes s.numbers.items c.self.invariant c.args.slot o.fat o.is c.tree_laws.ensures.leaf c.args.fat c.move_leaf.new.self
    c.move_leaf.ensures.tree (moved p.After-move_leaf o)

pub returns : goal.returns
returns c =
    let p = goal.at.returns c in
    let s = c.self.inside in
    let o = own p.After-index in
    fats_moved s.nodes s.numbers.items c.self.invariant c.args.slot o.fat o.is c.tree_laws.ensures.leaf c.args.fat c.move_leaf.new.self
    c.move_leaf.ensures.tree (moved p.After-move_leaf o)
    ∙ ap (λ l. set l.fats c.args.slot (Some c.args.fat)) c.self.view_is
