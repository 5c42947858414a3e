-- What is missed counts as seen, and what is found is shown, one slot after another.
use Rattle.std.proofs.Common.{◌≡◌, ℕ, ◌++◌, Bool, not, sym, subst, ap, ◌∙◌}
use Rattle.std.specs.List.{filter}
use Rattle.std.specs.FinMap.{entries}
use Rattle.fixed_box.specs.Bounds.{Bounds}
use Rattle.broad_index.specs.Found.{query_meets, found}
use Rattle.broad_index.specs.Showing.{entries_at}
use Rattle.broad_index.proofs.Shown.{missed, at_filtered, both_ways, shown_none, shown_some, shown_gone, shown_all}
use Rattle.broad_index.proofs.broad_phase.BroadPhase.visit.Goals as goal

pub slots-init : goal.slots-init
slots-init g c = (shown_none c.deref.result.now, g.met.V.Visitor.keeps_itself c.args.visitor.now)

pub slots-preserved-in_ok-meet : goal.slots-preserved-in_ok-meet
slots-preserved-in_ok-meet g c =
    let shown = shown_some c.deref.result.now c.slots.rest.now c.in-len1-up.len_at_least c.in-Some.body
    (sym (c.box_of.ensures.held c.in_ok-hits.ensures.sound) ∙ c.in-Some.is) c.slots.invariant.0 c.in_ok-meet.ensures.seen in
    (shown, g.met.V.Visitor.keeps_on c.args.visitor.now c.slots.visitor c.meet.new.self c.slots.invariant.1 c.in_ok-meet.ensures.kept)

pub slots-preserved : goal.slots-preserved
slots-preserved g c =
    let shown = shown_gone c.deref.result.now c.slots.rest.now c.in-len1-up.len_at_least
    (sym (c.box_of.ensures.held c.in_ok-hits.ensures.sound) ∙ c.in_default-box_of.is) c.slots.invariant.0 in
    (shown, c.slots.invariant.1)

pub returns-clause-seen : goal.returns-clause-seen
returns-clause-seen g c seen before =
    let bodies = g.Self.BroadPhase.bodies c.args.self.now in
    let p : ℕ × Bounds → Bool = λ e. query_meets c.query.result e.1 in
    let es = entries bodies in
    let out = filter (λ e. not (p e)) es in
    let now = g.V.Visitor.saw c.slots.visitor in
    let slots_are : c.deref.result.now ≡ found bodies c.query.result =
    c.deref.ensures.value ∙ c.in_ok-hits.ensures.ok ∙ ap (λ l. l ++ found bodies c.query.result) c.clear.ensures.items in
    let shown = shown_all c.deref.result.now c.slots.rest.now c.in_default.len_below c.slots.invariant.0 (seen ++ out)
    (c.query.ensures.missed seen out before (missed p es)) in
    g.met.V.Visitor.any_order c.slots.visitor ((seen ++ out) ++ filter p es) (seen ++ es) (both_ways p seen es)
    (subst (λ l. now ((seen ++ out) ++ l)) (ap (entries_at bodies) slots_are ∙ at_filtered bodies p) shown)
