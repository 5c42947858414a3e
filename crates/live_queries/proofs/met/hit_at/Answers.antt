-- A live box that is asked for and met is the hit of its slot.
use Rattle.std.proofs.Common.{sym, ◌∙◌}
use Rattle.live_queries.proofs.HitOf.{one_met}
use Rattle.live_queries.proofs.met.hit_at.Goals as goal

pub returns : goal.returns
returns g c =
    one_met (g.P.Probe.place c.args.probe.now) c.args.groups c.args.table.now.entries c.args.slot c.in_ok-live.live (sym c.in_ok-live.ensures.at)
    c.in_ok-entry.entry (sym c.is_asked_for.ensures ∙ c.if-not-is_asked_for.false) c.in_ok-entry.ensures
