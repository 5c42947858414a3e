-- The list is the map's endpoints in order.
use Rattle.std.proofs.Common.{◌++◌, ap, ◌∙◌}
use Rattle.std.proofs.lemmas.Result.{on_ok_weaker}
use Rattle.sweep_prune.specs.Keyed.{keyed}
use Rattle.sweep_prune.proofs.KeyedLemmas.{keyed_is}
use Rattle.sweep_prune.proofs.sap.Sap.order.Goals as goal

pub returns-else-is_err-clause-ok : goal.returns-else-is_err-clause-ok
returns-else-is_err-clause-ok c =
    let k = c.self.invariant (ap (λ i. i.spent) c.self.view_is ∙ c.requires.sound) in
    on_ok_weaker c.push_nodes-pushed.result
    (λ h. h ∙ ap (λ l. c.args.out.now.items ++ l) (c.list.ensures.list
    ∙ keyed_is c.self.inside.plain.bodies _ _ _ c.self.inside.core.lists k.1 c.args.axis ∙ ap (λ i. keyed i.bodies c.args.axis) c.self.view_is))
    c.push_nodes-pushed.ensures.ok
