-- What a present node's link back leads to is the last of those before it.
use Rattle.std.proofs.Common.{◌++◌, ◌∷◌, ◌∙◌, subst, arith}
use Rattle.endpoint_list.specs.declared.TheConstants.{NODES}
use Rattle.endpoint_list.specs.Links.{AreLinked}
use Rattle.endpoint_list.specs.NodeList.{IsNodeList}
use Rattle.slot_lists.specs.LinkLaws.{Below-left, Links-left}
use Rattle.endpoint_list.proofs.NodeLemmas.{node_list}
use Rattle.endpoint_list.proofs.LinkLemmas.{last_read, beside}
use Rattle.endpoint_list.proofs.end_list.EndList.prev.Goals as goal

pub neighbour-requires : goal.neighbour-requires
neighbour-requires c =
    let s = c.self.inside in
    let r = c.requires in
    let k : AreLinked s.next.items s.prev.items (r.0 ++ c.args.node ∷ r.1) =
    subst (AreLinked s.next.items s.prev.items) (c.self.view_is ∙ r.2) c.self.invariant in
    omega (arith, k.prev_len, (beside _ _ r.0 c.args.node r.1 k).small)

pub returns-clause-prev : goal.returns-clause-prev
returns-clause-prev c ys zs h =
    let s = c.self.inside in
    let k : AreLinked s.next.items s.prev.items (ys ++ c.args.node ∷ zs) =
    subst (AreLinked s.next.items s.prev.items) (c.self.view_is ∙ h) c.self.invariant in
    c.neighbour.ensures ∙ last_read _ _ ys c.args.node (Links-left _ _ NODES ys c.args.node zs NODES k.linked) (Below-left NODES ys (c.args.node ∷ zs) k.below)

pub returns-clause-list : goal.returns-clause-list
returns-clause-list c = subst IsNodeList c.self.view_is (node_list _ _ _ c.self.invariant)
