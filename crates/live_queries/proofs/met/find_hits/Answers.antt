-- At the end no slot is left, and no hit is wanted for it.
use Rattle.std.proofs.Common.{ℕ, List, [], sym, subst}
use Rattle.std.specs.List.{filter_map}
use Rattle.live_queries.specs.Beside.{AreBeside, IsHit, met_at}
use Rattle.live_queries.proofs.BesideLaws.{all_beside, none_left}
use Rattle.live_queries.proofs.met.find_hits.Goals as goal

pub returns : goal.returns
returns g c =
    let R = IsHit (g.P.Probe.place c.args.probe.now) c.args.table.now.entries in
    let met = met_at (g.P.Probe.place c.args.probe.now) c.args.groups c.args.table.now.entries in
    all_beside R c.slots.hits.items (filter_map met c.args.slots.now)
    (c.slots.invariant [] (subst (λ (slots : List ℕ). AreBeside R [] (filter_map met slots)) (sym (none_left c.slots.rest.now c.in_default.ensures.cases)) tt))
