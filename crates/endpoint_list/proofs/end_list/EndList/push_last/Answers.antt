-- The links keep the list with the node behind the last.
use Rattle.std.proofs.Common.{◌++◌, ◌∷◌, [], ◌∙◌, ap}
use Rattle.slot_lists.specs.Links.{Fresh}
use Rattle.endpoint_list.specs.Links.{listed}
use Rattle.endpoint_list.specs.NodeList.{has}
use Rattle.endpoint_list.proofs.NodeLemmas.{has_fresh}
use Rattle.endpoint_list.proofs.LinkLemmas.{kept, seen, seen_list}
use Rattle.endpoint_list.proofs.PushLemmas.{pushed, last_small}
use Rattle.endpoint_list.proofs.end_list.EndList.push_last.Goals as goal

pub put-requires-clause-before : goal.put-requires-clause-before
put-requires-clause-before c = last_small _ _ _ c.self.invariant

pub invariant_of-self : goal.invariant_of-self
invariant_of-self c =
    let s = c.self.inside in
    let fresh : Fresh c.args.node (listed s.next.items) = has_fresh c.args.node _ (ap (has c.args.node) c.self.view_is ∙ c.requires.absent) in
    kept _ _ _ _ _ c.put.ensures.next c.put.ensures.prev (pushed s.next.items s.prev.items _ c.args.node c.self.invariant c.requires.small fresh)

pub returns-clause-pushed : goal.returns-clause-pushed
returns-clause-pushed c =
    let s = c.self.inside in
    let fresh : Fresh c.args.node (listed s.next.items) = has_fresh c.args.node _ (ap (has c.args.node) c.self.view_is ∙ c.requires.absent) in
    seen _ _ _ _ c.put.ensures.next (pushed s.next.items s.prev.items _ c.args.node c.self.invariant c.requires.small fresh)
    ∙ ap (λ l. l ++ c.args.node ∷ []) c.self.view_is

pub returns-clause-list : goal.returns-clause-list
returns-clause-list c =
    let s = c.self.inside in
    let fresh : Fresh c.args.node (listed s.next.items) = has_fresh c.args.node _ (ap (has c.args.node) c.self.view_is ∙ c.requires.absent) in
    seen_list _ _ _ _ c.put.ensures.next (pushed s.next.items s.prev.items _ c.args.node c.self.invariant c.requires.small fresh)
