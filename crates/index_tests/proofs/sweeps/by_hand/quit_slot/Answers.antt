-- A slot that is present on one axis is present on each.
use Rattle.std.proofs.Common.{◌*◌, ap, sym, ◌∙◌}
use Rattle.endpoint_list.specs.NodeList.{has}
use Rattle.sweep_prune.specs.declared.axis.Axis.TheVariants.{X}
use Rattle.index_tests.proofs.sweeps.by_hand.quit_slot.Goals as goal

pub quit-requires : goal.quit-requires
quit-requires c = record {
  present = λ axis.
      c.list.ensures.whole.same axis X (2 * c.args.slot)
      ∙ sym (c.has.ensures.has ∙ ap (has (2 * c.args.slot)) c.list.ensures.list)
      ∙ c.if-has.true;
}
