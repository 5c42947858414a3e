-- The least mark is the least slot that may be given. Without a mark it is the next slot, where one is left.
use Rattle.std.proofs.Common.{◌<◌, arith, length, sym, ◌∙◌}
use Rattle.fixed_box.specs.declared.TheConstants.{SLOTS}
use Rattle.live_table.proofs.MarkLemmas.{none_marked}
use Rattle.live_table.proofs.OpenedSlot.{least_marked, least_next}
use Rattle.live_table.proofs.slot.least_open.Goals as goal

pub returns-in-Some-clause-least : goal.returns-in-Some-clause-least
returns-in-Some-clause-least c = least_marked c.args.slots.now c.args.freed.now c.in-Some.slot c.requires.few c.requires.marked c.in-Some.ensures

pub returns-then-next-clause-live : goal.returns-then-next-clause-live
returns-then-next-clause-live c k = sym (c.requires.marked k) ∙ none_marked c.args.freed.now (sym c.in_default.ensures) k

pub returns-clause-least : goal.returns-clause-least
returns-clause-least c =
    let few : length c.args.slots.now < SLOTS = omega (arith, c.requires.few, c.if-next.false) in
    least_next c.args.slots.now c.args.freed.now few c.requires.marked c.in_default.ensures
