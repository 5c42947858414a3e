-- The write is seen.
use Rattle.std.proofs.Common.{IsSome, subst, sym, refl}
use Rattle.slab.specs.Slab.{with_value}
use Rattle.tree_nodes.specs.Resized.{Rebounded}
use Rattle.tree_nodes.specs.Shown.{shown_slab}
use Rattle.tree_nodes.specs.Stored.{KeepsKeys}
use Rattle.tree_nodes.specs.declared.node.Node.{Node}
use Rattle.tree_nodes.proofs.ShownSlabs.{shown_rebounded, written_keeps}
use Rattle.tree_nodes.proofs.linked_nodes.LinkedNodes.write_bounds.Goals as goal

pub returns-clause-written : goal.returns-clause-written
returns-clause-written c =
    let old = c.self.inside.slab in
    let node = c.index_mut.result.now in
    let new = with_value old c.args.key (record { bounds = c.args.bounds.now; role = node.role }) in
    subst (λ s. Rebounded s (shown_slab new) c.args.key c.args.bounds.now) c.self.view_is
    (shown_rebounded old c.args.key node c.args.bounds.now c.index_mut.ensures.value)

pub returns-clause-keys : goal.returns-clause-keys
returns-clause-keys c =
    let old = c.self.inside.slab in
    let node : Node = record { bounds = c.args.bounds.now; role = c.index_mut.result.now.role } in
    subst (λ s. KeepsKeys s (shown_slab (with_value old c.args.key node))) c.self.view_is
    (written_keeps old c.args.key node (subst IsSome (sym c.index_mut.ensures.value) refl))
