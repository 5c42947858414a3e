-- The links keep the list without the node.
use Rattle.std.proofs.Common.{◌∙◌, subst}
use Rattle.endpoint_list.specs.Links.{AreLinked}
use Rattle.endpoint_list.proofs.LinkLemmas.{kept, seen, seen_list, beside}
use Rattle.endpoint_list.proofs.UnlinkLemmas.{unlinked}
use Rattle.endpoint_list.proofs.end_list.EndList.unlink.Goals as goal

pub unlink-requires-clause-node : goal.unlink-requires-clause-node
unlink-requires-clause-node c =
    let s = c.self.inside in
    let r = c.requires in
    (beside _ _ r.0 c.args.node r.1 (subst (AreLinked s.next.items s.prev.items) (c.self.view_is ∙ r.2) c.self.invariant)).small

pub unlink-requires-clause-before : goal.unlink-requires-clause-before
unlink-requires-clause-before c =
    let s = c.self.inside in
    let r = c.requires in
    (beside _ _ r.0 c.args.node r.1 (subst (AreLinked s.next.items s.prev.items) (c.self.view_is ∙ r.2) c.self.invariant)).before

pub unlink-requires-clause-after : goal.unlink-requires-clause-after
unlink-requires-clause-after c =
    let s = c.self.inside in
    let r = c.requires in
    (beside _ _ r.0 c.args.node r.1 (subst (AreLinked s.next.items s.prev.items) (c.self.view_is ∙ r.2) c.self.invariant)).after

pub invariant_of-self : goal.invariant_of-self
invariant_of-self c =
    let s = c.self.inside in
    let r = c.requires in
    kept _ _ _ _ _ c.unlink.ensures.next c.unlink.ensures.prev
    (unlinked _ _ r.0 c.args.node r.1 (subst (AreLinked s.next.items s.prev.items) (c.self.view_is ∙ r.2) c.self.invariant))

pub returns-clause-unlinked : goal.returns-clause-unlinked
returns-clause-unlinked c ys zs h =
    let s = c.self.inside in
    seen _ _ _ _ c.unlink.ensures.next (unlinked _ _ ys c.args.node zs (subst (AreLinked s.next.items s.prev.items) (c.self.view_is ∙ h) c.self.invariant))

pub returns-clause-list : goal.returns-clause-list
returns-clause-list c =
    let s = c.self.inside in
    let r = c.requires in
    seen_list _ _ _ _ c.unlink.ensures.next
    (unlinked _ _ r.0 c.args.node r.1 (subst (AreLinked s.next.items s.prev.items) (c.self.view_is ∙ r.2) c.self.invariant))
