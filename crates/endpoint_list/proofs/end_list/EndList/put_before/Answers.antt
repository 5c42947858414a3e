-- The links keep the list with the node before the other.
use Rattle.std.proofs.Common.{◌++◌, ◌∷◌, ◌∙◌, ap, sym, subst, arith}
use Rattle.slot_lists.specs.Links.{Fresh}
use Rattle.endpoint_list.specs.Links.{AreLinked}
use Rattle.endpoint_list.specs.NodeList.{has}
use Rattle.endpoint_list.proofs.NodeLemmas.{has_fresh}
use Rattle.endpoint_list.proofs.LinkLemmas.{kept, seen, seen_list, beside}
use Rattle.endpoint_list.proofs.PutLemmas.{placed}
use Rattle.endpoint_list.proofs.end_list.EndList.put_before.Goals as goal

pub put-requires-clause-other : goal.put-requires-clause-other
put-requires-clause-other c =
    let s = c.self.inside in
    let r = c.requires.present in
    omega (arith, (beside _ _ r.0 c.args.other r.1 (subst (AreLinked s.next.items s.prev.items) (c.self.view_is ∙ r.2) c.self.invariant)).small)

pub put-requires-clause-before : goal.put-requires-clause-before
put-requires-clause-before c =
    let s = c.self.inside in
    let r = c.requires.present in
    (beside _ _ r.0 c.args.other r.1 (subst (AreLinked s.next.items s.prev.items) (c.self.view_is ∙ r.2) c.self.invariant)).before

pub invariant_of-self : goal.invariant_of-self
invariant_of-self c =
    let s = c.self.inside in
    let r = c.requires.present in
    let fresh : Fresh c.args.node (r.0 ++ c.args.other ∷ r.1) = has_fresh c.args.node _ (sym (ap (has c.args.node) r.2) ∙ c.requires.absent) in
    kept _ _ _ _ _ c.put.ensures.next c.put.ensures.prev
    (placed _ _ r.0 c.args.node c.args.other r.1 (subst (AreLinked s.next.items s.prev.items) (c.self.view_is ∙ r.2) c.self.invariant)
    c.requires.small fresh)

pub returns-clause-put : goal.returns-clause-put
returns-clause-put c ys zs h =
    let s = c.self.inside in
    let fresh : Fresh c.args.node (ys ++ c.args.other ∷ zs) = has_fresh c.args.node _ (sym (ap (has c.args.node) h) ∙ c.requires.absent) in
    seen _ _ _ _ c.put.ensures.next
    (placed _ _ ys c.args.node c.args.other zs (subst (AreLinked s.next.items s.prev.items) (c.self.view_is ∙ h) c.self.invariant) c.requires.small fresh)

pub returns-clause-list : goal.returns-clause-list
returns-clause-list c =
    let s = c.self.inside in
    let r = c.requires.present in
    let fresh : Fresh c.args.node (r.0 ++ c.args.other ∷ r.1) = has_fresh c.args.node _ (sym (ap (has c.args.node) r.2) ∙ c.requires.absent) in
    seen_list _ _ _ _ c.put.ensures.next
    (placed _ _ r.0 c.args.node c.args.other r.1 (subst (AreLinked s.next.items s.prev.items) (c.self.view_is ∙ r.2) c.self.invariant)
    c.requires.small fresh)
