-- The leaf that goes is the slot's.
use Rattle.std.proofs.Common.{◌∷◌, ◌∙◌, arith, ap, set, subst, get_or, None, is_some}
use Rattle.std.specs.List.Sorted.{IsPermutation}
use Rattle.tree_nodes.specs.Tree.{leaves_in}
use Rattle.box_tree.proofs.FatLists.{slots_apart, went}
use Rattle.box_tree.proofs.LeafTies.{numbered, own_of, tied_dropped, Own}
use Rattle.box_tree.proofs.leaves.Leaves.take.Goals.{After-index, After-drop_leaf}
use Rattle.box_tree.proofs.leaves.Leaves.take.Goals as goal

pub index-requires : goal.index-requires
index-requires c =
    let s = c.self.inside in
    let l = numbered s.nodes s.numbers.items c.self.invariant c.args.slot (ap (λ l. is_some (get_or l.fats c.args.slot None)) c.self.view_is ∙ c.requires) in
    omega (arith, s.numbers.ok.0, l)

own : (c : After-index) → Own (c.self.inside).nodes (c.self.inside).numbers.items c.args.slot c.index.result.now
own c =
    let s = c.self.inside in
    own_of s.nodes s.numbers.items c.self.invariant c.args.slot c.index.result.now
    (ap (λ l. is_some (get_or l.fats c.args.slot None)) c.self.view_is ∙ c.requires) c.index.ensures c.tree_laws.ensures.leaf

pub drop_leaf-requires : goal.drop_leaf-requires
drop_leaf-requires c = let o = own (goal.at.drop_leaf-requires c).After-index in (c.args.slot, o.fat, o.viewed)

left : (c : After-drop_leaf) (o : Own (c.self.inside).nodes (c.self.inside).numbers.items c.args.slot c.index.result.now)
    → IsPermutation (record { node = get_or (c.self.inside).numbers.items c.args.slot 0; slot = c.args.slot; fat = o.fat }
    ∷ leaves_in c.drop_leaf.new.self) (leaves_in (c.self.inside).nodes)
left c o =
    subst (λ n. IsPermutation (record { node = n; slot = c.args.slot; fat = o.fat } ∷ leaves_in c.drop_leaf.new.self) (leaves_in (c.self.inside).nodes))
    o.node_is (c.drop_leaf.ensures.leaves c.args.slot o.fat o.viewed)

pub invariant_of-self : goal.invariant_of-self
invariant_of-self c =
    let p = goal.at.invariant_of-self c in
    let s = c.self.inside in
    let o = own p.After-index in
    tied_dropped s.nodes s.numbers.items c.self.invariant c.args.slot o.fat o.is c.drop_leaf.new.self c.drop_leaf.ensures.tree (left p.After-drop_leaf o)

pub returns : goal.returns
returns c =
    let p = goal.at.returns c in
    let s = c.self.inside in
    let o = own p.After-index in
    went (record { node = get_or s.numbers.items c.args.slot 0; slot = c.args.slot; fat = o.fat }) (leaves_in c.drop_leaf.new.self) (leaves_in s.nodes)
    (left p.After-drop_leaf o) (slots_apart s.nodes (c.self.invariant).is_tree) o.small
    ∙ ap (λ l. set l.fats c.args.slot None) c.self.view_is
