-- An absent node has the mark of absence, and a present one hasn't.
use Rattle.std.proofs.Common.{◌+◌, not, eqb, ap, sym, ◌∙◌, subst, arith, le-ltb}
use Rattle.std.proofs.lemmas.List.{get_or_read}
use Rattle.endpoint_list.specs.declared.TheConstants.{NODES}
use Rattle.endpoint_list.specs.Links.{listed}
use Rattle.endpoint_list.specs.NodeList.{has, IsNodeList}
use Rattle.endpoint_list.proofs.LinkLemmas.{has_read}
use Rattle.endpoint_list.proofs.NodeLemmas.{node_list, has_past}
use Rattle.endpoint_list.proofs.end_list.EndList.has.Goals as goal

pub returns-then-node-lt-NODES-clause-has : goal.returns-then-node-lt-NODES-clause-has
returns-then-node-lt-NODES-clause-has c =
    let N = c.self.inside.next.items in
    let k = c.self.invariant in
    let read = get_or_read N c.args.node c.index.result.now (omega (arith, k.next_len, c.if-node-lt-NODES.true)) c.index.ensures 0 in
    ap (λ n. not (eqb n (NODES + 1))) read ∙ has_read N c.self.inside.prev.items (listed N) c.args.node k c.if-node-lt-NODES.true
    ∙ ap (has c.args.node) c.self.view_is

pub returns-then-node-lt-NODES-clause-list : goal.returns-then-node-lt-NODES-clause-list
returns-then-node-lt-NODES-clause-list c = subst IsNodeList c.self.view_is (node_list _ _ _ c.self.invariant)

pub returns-else-node-lt-NODES-clause-has : goal.returns-else-node-lt-NODES-clause-has
returns-else-node-lt-NODES-clause-has c =
    le-ltb c.args.node NODES c.if-node-lt-NODES.false
    ∙ sym (has_past c.args.node NODES (listed c.self.inside.next.items) c.self.invariant.below c.if-node-lt-NODES.false)
    ∙ ap (has c.args.node) c.self.view_is

pub returns-else-node-lt-NODES-clause-list : goal.returns-else-node-lt-NODES-clause-list
returns-else-node-lt-NODES-clause-list c = subst IsNodeList c.self.view_is (node_list _ _ _ c.self.invariant)
