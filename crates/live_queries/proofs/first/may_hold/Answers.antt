-- A place that isn't before the first so far lies behind it.
use Rattle.std.proofs.Common.{◌∙◌, sym, subst}
use Rattle.live_queries.specs.FirstSeen.{IsBehind}
use Rattle.live_queries.proofs.FirstBox.{behind_by}
use Rattle.live_queries.proofs.first.may_hold.Goals as goal

pub returns-in-Some-entry : goal.returns-in-Some-entry
returns-in-Some-entry g c =
    let at = g.P.Probe.place c.args.probe.now c.args.hull.now in
    λ out. subst (IsBehind at) (sym c.in-Some.is) (behind_by at c.in-Some-entry.entry c.in-Some-entry.ensures c.in-Some.best (sym c.is_no_later.ensures ∙ out))
