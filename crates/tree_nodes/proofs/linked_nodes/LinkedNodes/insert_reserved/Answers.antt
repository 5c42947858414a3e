-- The slab's change is seen.
use Rattle.std.proofs.Common.{◌≡◌, ◌+◌, Some, subst, arith}
use Rattle.slab.specs.Slab.{Updates, slab_len}
use Rattle.tree_nodes.specs.Shown.{shown_slab}
use Rattle.tree_nodes.specs.declared.node.Role.TheVariants.{Leaf}
use Rattle.tree_nodes.specs.declared.node_view.NodeView.TheVariants.{Leaf as LeafNode}
use Rattle.tree_nodes.proofs.ShownSlabs.{shown_updates, shown_count}
use Rattle.tree_nodes.proofs.linked_nodes.LinkedNodes.insert_reserved.Goals as goal

pub returns-clause-updates : goal.returns-clause-updates
returns-clause-updates c =
    let new = c.insert_reserved.new.self in
    subst (λ s. Updates s (shown_slab new) c.insert_reserved.result (Some (LeafNode c.args.slot c.args.fat))) c.self.view_is
    (shown_updates c.self.inside.slab new c.insert_reserved.result (Some (record { bounds = c.args.fat; role = Leaf c.args.slot }))
    c.insert_reserved.ensures.updates)

pub returns-clause-len : goal.returns-clause-len
returns-clause-len c =
    let old = c.self.inside.slab in
    let new = c.insert_reserved.new.self in
    subst (λ s. slab_len (shown_slab new) ≡ slab_len s + 1) c.self.view_is
    (let a = shown_count old.slots in let b = shown_count new.slots in let e = c.insert_reserved.ensures.len in omega arith)
