-- A slot that is absent on one axis is absent on each.
use Rattle.std.proofs.Common.{◌*◌, ap, sym, ◌∙◌}
use Rattle.endpoint_list.specs.NodeList.{has}
use Rattle.sweep_prune.specs.declared.axis.Axis.TheVariants.{X}
use Rattle.index_tests.proofs.sweeps.by_hand.enter_slot.Goals as goal

pub enter-requires-clause-absent : goal.enter-requires-clause-absent
enter-requires-clause-absent c axis =
    c.list.ensures.whole.same axis X (2 * c.args.slot)
    ∙ sym (c.has.ensures.has ∙ ap (has (2 * c.args.slot)) c.list.ensures.list)
    ∙ c.if-not-has.true
