-- The slab's change is seen.
use Rattle.std.proofs.Common.{None, subst}
use Rattle.slab.specs.Slab.{Updates}
use Rattle.tree_nodes.specs.Shown.{shown_slab}
use Rattle.tree_nodes.proofs.ShownSlabs.{shown_updates}
use Rattle.tree_nodes.proofs.linked_nodes.LinkedNodes.remove.Goals as goal

pub returns-clause-updates : goal.returns-clause-updates
returns-clause-updates c =
    let new = c.remove.new.self in
    subst (λ s. Updates s (shown_slab new) c.args.key None) c.self.view_is
    (shown_updates c.self.inside.slab new c.args.key None c.remove.ensures.updates)
