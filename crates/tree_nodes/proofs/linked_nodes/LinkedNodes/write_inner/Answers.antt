-- The write is seen.
use Rattle.std.proofs.Common.{IsSome, Some, ap, ◌∙◌, subst, sym, refl}
use Rattle.slab.specs.Slab.{get, with_value}
use Rattle.tree_nodes.specs.Shown.{shown_slab}
use Rattle.tree_nodes.specs.Stored.{KeepsKeys}
use Rattle.tree_nodes.specs.declared.node.Node.{Node}
use Rattle.tree_nodes.proofs.ShownSlabs.{shown_written, written_keeps}
use Rattle.tree_nodes.proofs.linked_nodes.LinkedNodes.write_inner.Goals as goal

pub returns-clause-there : goal.returns-clause-there
returns-clause-there c =
    let node : Node = record { bounds = c.args.hull; role = c.inner_role-role.result } in
    (shown_written c.self.inside.slab c.args.key node (subst IsSome (sym c.index_mut.ensures.value) refl)).changed
    ∙ ap Some (c.inner_role-role.ensures c.args.hull)

pub returns-clause-kept : goal.returns-clause-kept
returns-clause-kept c k other =
    let node : Node = record { bounds = c.args.hull; role = c.inner_role-role.result } in
    (shown_written c.self.inside.slab c.args.key node (subst IsSome (sym c.index_mut.ensures.value) refl)).others k other
    ∙ ap (λ s. get s k) c.self.view_is

pub returns-clause-keys : goal.returns-clause-keys
returns-clause-keys c =
    let old = c.self.inside.slab in
    let node : Node = record { bounds = c.args.hull; role = c.inner_role-role.result } in
    subst (λ s. KeepsKeys s (shown_slab (with_value old c.args.key node))) c.self.view_is
    (written_keeps old c.args.key node (subst IsSome (sym c.index_mut.ensures.value) refl))
