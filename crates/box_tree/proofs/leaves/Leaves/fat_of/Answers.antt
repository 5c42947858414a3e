-- The node under the slot's number is the slot's leaf.
use Rattle.std.proofs.Common.{◌∙◌, arith, ap, sym, subst, refl, get_or, None, Some, is_some, IsSome}
use Rattle.box_tree.proofs.LeafTies.{numbered, own_of, shown_bounds, Own}
use Rattle.box_tree.proofs.leaves.Leaves.fat_of.Goals.{After-index}
use Rattle.box_tree.proofs.leaves.Leaves.fat_of.Goals as goal

pub index-requires : goal.index-requires
index-requires c =
    let s = c.self.inside in
    let l = numbered s.nodes s.numbers.items c.self.invariant c.args.slot (ap (λ l. is_some (get_or l.fats c.args.slot None)) c.self.view_is ∙ c.requires) in
    omega (arith, s.numbers.ok.0, l)

own : (c : After-index) → Own (c.self.inside).nodes (c.self.inside).numbers.items c.args.slot c.index.result.now
own c =
    let s = c.self.inside in
    own_of s.nodes s.numbers.items c.self.invariant c.args.slot c.index.result.now
    (ap (λ l. is_some (get_or l.fats c.args.slot None)) c.self.view_is ∙ c.requires) c.index.ensures c.tree_laws.ensures.leaf

pub node-requires : goal.node-requires
node-requires c = subst IsSome (sym (own (goal.at.node-requires c).After-index).viewed) refl

pub returns : goal.returns
returns c =
    let o = own (goal.at.returns c).After-index in
    let n = c.node.result.now in
    ap (λ l. get_or l.fats c.args.slot None) (sym c.self.view_is) ∙ o.is
    ∙ ap Some (sym (shown_bounds n.bounds n.role c.args.slot o.fat (sym c.node.ensures.value ∙ o.viewed)))
