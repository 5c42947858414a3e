-- The map of the boxes of some groups has a slot's box where that is in one of them and far enough off.
use Rattle.std.proofs.Common.{cond, Some, None, sym, ap, ◌∙◌}
use Rattle.live_queries.proofs.Asked.{picked, get_asked, space_asked, is_asked_from}
use Rattle.live_queries.proofs.nearest.body_at.Goals as goal

pub returns-in-None-clause-body : goal.returns-in-None-clause-body
returns-in-None-clause-body c =
    sym (get_asked c.args.query.now.body c.args.query.now.from c.args.query.now.groups c.args.table.now c.in-None.ensures.table c.args.slot ∙ ap (picked (is_asked_from c.args.query.now.body c.args.query.now.from c.args.query.now.groups)) (sym c.in-None.ensures.at))

pub returns-in-None-clause-in_space : goal.returns-in-None-clause-in_space
returns-in-None-clause-in_space c = space_asked c.args.query.now.body c.args.query.now.from c.args.query.now.groups c.args.table.now c.in-None.ensures.table

pub returns-then-is_asked_from-clause-body : goal.returns-then-is_asked_from-clause-body
returns-then-is_asked_from-clause-body c =
    sym
    (get_asked c.args.query.now.body c.args.query.now.from c.args.query.now.groups c.args.table.now c.in-Some.ensures.table c.args.slot ∙ ap (picked (is_asked_from c.args.query.now.body c.args.query.now.from c.args.query.now.groups)) (sym c.in-Some.ensures.at)
    ∙ ap (λ b. cond b (Some c.in-Some.live.body) None) (sym c.is_asked_from.ensures ∙ c.if-is_asked_from.true))

pub returns-then-is_asked_from-clause-in_space : goal.returns-then-is_asked_from-clause-in_space
returns-then-is_asked_from-clause-in_space c = space_asked c.args.query.now.body c.args.query.now.from c.args.query.now.groups c.args.table.now c.in-Some.ensures.table

pub returns-else-is_asked_from-clause-body : goal.returns-else-is_asked_from-clause-body
returns-else-is_asked_from-clause-body c =
    sym
    (get_asked c.args.query.now.body c.args.query.now.from c.args.query.now.groups c.args.table.now c.in-Some.ensures.table c.args.slot ∙ ap (picked (is_asked_from c.args.query.now.body c.args.query.now.from c.args.query.now.groups)) (sym c.in-Some.ensures.at)
    ∙ ap (λ b. cond b (Some c.in-Some.live.body) None) (sym c.is_asked_from.ensures ∙ c.if-is_asked_from.false))

pub returns-else-is_asked_from-clause-in_space : goal.returns-else-is_asked_from-clause-in_space
returns-else-is_asked_from-clause-in_space c = space_asked c.args.query.now.body c.args.query.now.from c.args.query.now.groups c.args.table.now c.in-Some.ensures.table
