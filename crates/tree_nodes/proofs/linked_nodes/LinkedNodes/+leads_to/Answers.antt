-- The step goes to the child that has the number.
use Rattle.std.proofs.Common.{◌<◌, ◌-◌, take, drop, length, ap, ◌∙◌, subst, Some, arith}
use Rattle.tree_nodes.proofs.Paths.{both_below}
use Rattle.tree_nodes.proofs.Removing.{parted}
use Rattle.tree_nodes.proofs.linked_nodes.LinkedNodes.+leads_to.Goals as goal

pub leads_to-requires : goal.leads_to-requires
leads_to-requires t c =
    let q = c.requires in
    let o = both_below c.args.self.now c.args.at c.in-Inner.left c.in-Inner.right c.in-Inner.height c.in-Inner.hull q.0 q.1
    (c.view.ensures ∙ ap Some c.in-Inner.is) in
    let e = parted c.args.path.now c.in-len1-up.len_at_least in
    (subst (λ m. length (take (length c.args.path.now - 1) (drop 1 c.args.path.now)) < m) c.decreases (let l = ap length e in omega arith), (o.0, o.3))

pub leads_to-requires-then-next-right : goal.leads_to-requires-then-next-right
leads_to-requires-then-next-right t c =
    let q = c.requires in
    let o = both_below c.args.self.now c.args.at c.in-Inner.left c.in-Inner.right c.in-Inner.height c.in-Inner.hull q.0 q.1
    (c.view.ensures ∙ ap Some c.in-Inner.is) in
    let e = parted c.args.path.now c.in-len1-up.len_at_least in
    (subst (λ m. length (take (length c.args.path.now - 1) (drop 1 c.args.path.now)) < m) c.decreases (let l = ap length e in omega arith), (o.1, o.4))
