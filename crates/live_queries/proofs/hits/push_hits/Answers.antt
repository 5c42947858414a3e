-- The slots that an index has found are those of the live boxes that meet the query.
use Rattle.std.proofs.Common.{◌++◌, ap, ◌∙◌}
use Rattle.std.proofs.lemmas.Result.{on_ok_weaker}
use Rattle.live_queries.proofs.Touches.{hits_from_found}
use Rattle.live_queries.proofs.hits.push_hits.Goals as goal

pub returns-clause-ok : goal.returns-clause-ok
returns-clause-ok c =
    on_ok_weaker c.push_listed.result (λ is. is
    ∙ ap (λ hs. c.args.out.now.items ++ hs) (hits_from_found c.args.table.now c.args.slots.now c.args.query.now c.args.groups
    c.requires.table c.requires.found)) c.push_listed.ensures.ok
