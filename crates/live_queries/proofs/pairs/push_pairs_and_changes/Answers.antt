-- Of the pairs that an index has, those that may pair are the pairs of the table.
use Rattle.std.proofs.Common.{◌++◌, ap, ◌∙◌}
use Rattle.std.proofs.lemmas.Result.{on_ok_weaker}
use Rattle.pair_events.specs.PairEvents.{missing}
use Rattle.live_queries.proofs.Touches.{pairs_from_near}
use Rattle.live_queries.proofs.pairs.push_pairs_and_changes.Goals as goal

pub returns-clause-now : goal.returns-clause-now
returns-clause-now c =
    let these = pairs_from_near c.args.table.now c.args.pairs.now c.requires.table c.requires.near in
    on_ok_weaker c.merge_changes.result (λ is. is ∙ ap (λ ps. c.args.now.now.items ++ ps) these) c.merge_changes.ensures.now

pub returns-clause-began : goal.returns-clause-began
returns-clause-began c =
    let these = pairs_from_near c.args.table.now c.args.pairs.now c.requires.table c.requires.near in
    on_ok_weaker c.merge_changes.result (λ is. is ∙ ap (λ ps. c.args.began.now.items ++ missing ps c.args.last.now) these) c.merge_changes.ensures.began

pub returns-clause-over : goal.returns-clause-over
returns-clause-over c =
    let these = pairs_from_near c.args.table.now c.args.pairs.now c.requires.table c.requires.near in
    on_ok_weaker c.merge_changes.result (λ is. is ∙ ap (λ ps. c.args.over.now.items ++ missing c.args.last.now ps) these) c.merge_changes.ensures.over
