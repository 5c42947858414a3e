-- A box that is met and asked for becomes the first so far, unless that comes before it.
use Rattle.std.proofs.Common.{◌++◌, ◌∷◌, [], Some, sym, subst}
use Rattle.live_queries.specs.FirstSeen.{FirstSeen}
use Rattle.live_queries.proofs.FirstBox.{met_some}
use Rattle.live_queries.proofs.first.FirstSearchVisitor.meet.Goals as goal

pub returns-in-Some-clause-seen : goal.returns-in-Some-clause-seen
returns-in-Some-clause-seen g c =
    let s = c.args.self.now in
    let place = g.P.Probe.place s.probe.now in
    λ shown has. (
      has.0,
      subst (λ h. FirstSeen place s.groups s.table.now.entries (Some h) (shown ++ (c.args.slot, c.args._body.now) ∷ [])) (sym c.sooner.ensures)
          (met_some place s.groups s.table.now.entries c.in-Some.hit s.best shown c.args.slot c.args._body.now c.in-Some.ensures has.1),
    )
