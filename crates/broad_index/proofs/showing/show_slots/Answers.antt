-- One slot is shown after another.
use Rattle.std.proofs.Common.{sym, ◌∙◌}
use Rattle.broad_index.proofs.Shown.{shown_none, shown_some, shown_gone, shown_all}
use Rattle.broad_index.proofs.showing.show_slots.Goals as goal

pub slots-init : goal.slots-init
slots-init g c = (shown_none c.args.slots.now, g.met.V.Visitor.keeps_itself c.args.visitor.now)

pub slots-preserved-in_ok-meet : goal.slots-preserved-in_ok-meet
slots-preserved-in_ok-meet g c =
    let shown = shown_some c.args.slots.now c.slots.rest.now c.in-len1-up.len_at_least c.in-Some.body
    (sym c.box_of.ensures ∙ c.in-Some.is) c.slots.invariant.0 c.in_ok-meet.ensures.seen in
    (shown, g.met.V.Visitor.keeps_on c.args.visitor.now c.slots.visitor c.meet.new.self c.slots.invariant.1 c.in_ok-meet.ensures.kept)

pub slots-preserved : goal.slots-preserved
slots-preserved g c =
    let shown = shown_gone c.args.slots.now c.slots.rest.now c.in-len1-up.len_at_least
    (sym c.box_of.ensures ∙ c.in_default-box_of.is) c.slots.invariant.0 in
    (shown, c.slots.invariant.1)

pub returns-clause-seen : goal.returns-clause-seen
returns-clause-seen g c = shown_all c.args.slots.now c.slots.rest.now c.in_default.len_below c.slots.invariant.0
