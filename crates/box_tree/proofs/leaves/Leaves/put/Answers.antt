-- The leaf that came is the slot's.
use Rattle.std.proofs.Common.{◌∙◌, ap, get_or, set, None, Some}
use Rattle.tree_nodes.specs.Tree.{leaves_in}
use Rattle.box_tree.proofs.FatLists.{came, slots_apart}
use Rattle.box_tree.proofs.LeafTies.{few, none_has, tied_added}
use Rattle.box_tree.proofs.leaves.Leaves.put.Goals as goal

pub add_leaf-requires-clause-few : goal.add_leaf-requires-clause-few
add_leaf-requires-clause-few c =
    let s = c.self.inside in
    few s.nodes s.numbers.items c.self.invariant c.args.slot c.requires.small
    (ap (λ l. get_or l.fats c.args.slot None) c.self.view_is ∙ c.requires.absent) c.args.fat

pub add_leaf-requires-clause-absent : goal.add_leaf-requires-clause-absent
add_leaf-requires-clause-absent c =
    let s = c.self.inside in
    none_has s.nodes s.numbers.items c.self.invariant c.args.slot c.requires.small
    (ap (λ l. get_or l.fats c.args.slot None) c.self.view_is ∙ c.requires.absent)

pub invariant_of-self : goal.invariant_of-self
invariant_of-self c =
    let s = c.self.inside in
    tied_added s.nodes s.numbers.items c.self.invariant c.args.slot c.requires.small
    (ap (λ l. get_or l.fats c.args.slot None) c.self.view_is ∙ c.requires.absent) c.add_leaf.new.self c.add_leaf.result c.args.fat
    c.add_leaf.ensures.tree c.add_leaf.ensures.leaves

pub returns : goal.returns
returns c =
    let new = c.add_leaf.new.self in
    came (record { node = c.add_leaf.result; slot = c.args.slot; fat = c.args.fat }) (leaves_in (c.self.inside).nodes) (leaves_in new)
    c.add_leaf.ensures.leaves (slots_apart new c.add_leaf.ensures.tree) c.requires.small
    ∙ ap (λ l. set l.fats c.args.slot (Some c.args.fat)) c.self.view_is
