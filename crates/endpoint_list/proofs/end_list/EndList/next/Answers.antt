-- What a present node's link leads to is the first of those after it.
use Rattle.std.proofs.Common.{◌++◌, ◌∷◌, ◌∙◌, subst, arith}
use Rattle.endpoint_list.specs.declared.TheConstants.{NODES}
use Rattle.endpoint_list.specs.Links.{AreLinked}
use Rattle.endpoint_list.specs.NodeList.{IsNodeList}
use Rattle.slot_lists.specs.LinkLaws.{Below-right, Links-right}
use Rattle.endpoint_list.proofs.NodeLemmas.{node_list}
use Rattle.endpoint_list.proofs.LinkLemmas.{first_read, beside}
use Rattle.endpoint_list.proofs.end_list.EndList.next.Goals as goal

pub neighbour-requires : goal.neighbour-requires
neighbour-requires c =
    let s = c.self.inside in
    let r = c.requires in
    let k : AreLinked s.next.items s.prev.items (r.0 ++ c.args.node ∷ r.1) =
    subst (AreLinked s.next.items s.prev.items) (c.self.view_is ∙ r.2) c.self.invariant in
    omega (arith, k.next_len, (beside _ _ r.0 c.args.node r.1 k).small)

pub returns-clause-next : goal.returns-clause-next
returns-clause-next c ys zs h =
    let s = c.self.inside in
    let k : AreLinked s.next.items s.prev.items (ys ++ c.args.node ∷ zs) =
    subst (AreLinked s.next.items s.prev.items) (c.self.view_is ∙ h) c.self.invariant in
    c.neighbour.ensures
    ∙ first_read _ _ c.args.node zs (Links-right _ _ NODES ys c.args.node zs NODES k.linked) (Below-right NODES ys (c.args.node ∷ zs) k.below).1

pub returns-clause-list : goal.returns-clause-list
returns-clause-list c = subst IsNodeList c.self.view_is (node_list _ _ _ c.self.invariant)
