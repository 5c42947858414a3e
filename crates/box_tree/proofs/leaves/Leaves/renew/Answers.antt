-- A leaf that goes and comes again has the box that it comes with.
use Rattle.std.proofs.Common.{◌<◌, ◌∙◌, ap, set, subst, None, Some}
use Rattle.std.proofs.lemmas.List.{set-set}
use Rattle.box_tree.proofs.Fats.{within}
use Rattle.box_tree.proofs.leaves.Leaves.renew.Goals as goal

pub put-requires-clause-small : goal.put-requires-clause-small
put-requires-clause-small c = subst (λ n. c.args.slot < n) c.leaf_law.ensures.fats_len (within c.args.self.now.fats c.args.slot c.requires)

pub returns-else-is_near : goal.returns-else-is_near
returns-else-is_near c =
    c.put.ensures
    ∙ (ap (λ xs. set xs c.args.slot (Some c.args.fat)) c.take.ensures ∙ set-set c.args.self.now.fats c.args.slot None (Some c.args.fat))
