-- The hits are put in order, and told in handles.
use Rattle.std.proofs.Common.{◌++◌, ap, ◌∙◌}
use Rattle.std.proofs.lemmas.Result.{on_ok_weaker}
use Rattle.live_queries.proofs.MetOnWay.{handles_in_order}
use Rattle.live_queries.proofs.met.push_met.Goals as goal

pub returns-clause-ok : goal.returns-clause-ok
returns-clause-ok g c =
    on_ok_weaker c.push_handles.result (λ is. is
    ∙ ap (λ hs. c.args.out.now.items ++ hs) (handles_in_order (g.P.Probe.place c.args.probe.now) c.args.groups c.args.table.now c.args.slots.now
    c.requires.table c.requires.met c.find_hits.new.hits.items c.deref.result.now c.in_ok-find_hits.ensures
    (λ ties. c.deref.ensures.value ∙ c.put_in_order.ensures.ordered ties))) c.push_handles.ensures.ok
