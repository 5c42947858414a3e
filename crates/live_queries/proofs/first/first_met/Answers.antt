-- All were shown, and what is asked for stayed: the first of them is the head of the boxes in order.
use Rattle.std.proofs.Common.{◌≡◌, ◌∙◌, [], ap, subst}
use Rattle.std.specs.FinMap.{entries}
use Rattle.live_table.specs.Bodies.{slots_with_bodies}
use Rattle.live_queries.specs.FirstSeen.{FirstSeen}
use Rattle.live_queries.specs.Queries.{met_in_order}
use Rattle.live_queries.proofs.FirstBox.{none_seen, first_told, first_handle}
use Rattle.live_queries.proofs.first.first_met.Goals as goal

pub returns-clause-first : goal.returns-clause-first
returns-clause-first g c =
    let place = g.P.Probe.place c.args.probe.now in
    let table = c.args.table.now in
    let v = c.visit.new.visitor in
    let kept = c.in_ok-visit.ensures.kept in
    let shown = (c.in_ok-visit.ensures.seen [] (c.test.ensures, none_seen place c.args.groups table.entries)).1 in
    let all : entries (g.B.BroadPhase.bodies c.args.index.now) ≡ slots_with_bodies table.entries = ap entries c.requires.bodies ∙ c.requires.table.mapped in
    let first : FirstSeen place c.args.groups table.entries v.best (slots_with_bodies table.entries) =
    subst (FirstSeen place c.args.groups table.entries v.best) all
    (subst (λ t. FirstSeen place c.args.groups t.entries v.best (entries (g.B.BroadPhase.bodies c.args.index.now))) kept.2
    (subst (λ m. FirstSeen place m v.table.now.entries v.best (entries (g.B.BroadPhase.bodies c.args.index.now))) kept.1
    (subst (λ p. FirstSeen (g.P.Probe.place p) v.groups v.table.now.entries v.best (entries (g.B.BroadPhase.bodies c.args.index.now))) kept.0 shown))) in
    first_told place (g.P.Probe.face c.args.probe.now) c.args.groups table c.requires.table v.best first c.told.result c.told.ensures

pub returns-clause-handle : goal.returns-clause-handle
returns-clause-handle g c =
    first_handle (g.P.Probe.place c.args.probe.now) (g.P.Probe.face c.args.probe.now) (met_in_order (g.P.Probe.place c.args.probe.now) c.args.table.now.entries c.args.groups)
    c.told.result (returns-clause-first g c)
