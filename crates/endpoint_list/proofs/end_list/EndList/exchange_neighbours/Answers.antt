-- The links keep the list with the two changed.
use Rattle.std.proofs.Common.{◌++◌, ◌∷◌, ◌∙◌, subst}
use Rattle.endpoint_list.specs.Links.{AreLinked}
use Rattle.endpoint_list.proofs.LinkLemmas.{kept, seen, seen_list}
use Rattle.endpoint_list.proofs.ExchangeLemmas.{followed, exchanged}
use Rattle.endpoint_list.proofs.end_list.EndList.exchange_neighbours.Goals as goal

pub exchange-requires : goal.exchange-requires
exchange-requires c =
    let s = c.self.inside in
    let r = c.requires in
    let k : AreLinked s.next.items s.prev.items (r.0 ++ c.args.node ∷ c.args.other ∷ r.1) =
    subst (AreLinked s.next.items s.prev.items) (c.self.view_is ∙ r.2) c.self.invariant in
    let w = followed _ _ r.0 c.args.node c.args.other r.1 k in
    record { next = k.next_len; prev = k.prev_len; node = w.small; other = w.next_small; before = w.before; after = w.after }

pub invariant_of-self : goal.invariant_of-self
invariant_of-self c =
    let s = c.self.inside in
    let r = c.requires in
    let k : AreLinked s.next.items s.prev.items (r.0 ++ c.args.node ∷ c.args.other ∷ r.1) =
    subst (AreLinked s.next.items s.prev.items) (c.self.view_is ∙ r.2) c.self.invariant in
    kept _ _ _ _ _ c.exchange.ensures.next c.exchange.ensures.prev (exchanged _ _ r.0 c.args.node c.args.other r.1 k)

pub returns-clause-exchanged : goal.returns-clause-exchanged
returns-clause-exchanged c ys zs h =
    let s = c.self.inside in
    let k : AreLinked s.next.items s.prev.items (ys ++ c.args.node ∷ c.args.other ∷ zs) =
    subst (AreLinked s.next.items s.prev.items) (c.self.view_is ∙ h) c.self.invariant in
    seen _ _ _ _ c.exchange.ensures.next (exchanged _ _ ys c.args.node c.args.other zs k)

pub returns-clause-list : goal.returns-clause-list
returns-clause-list c =
    let s = c.self.inside in
    let r = c.requires in
    let k : AreLinked s.next.items s.prev.items (r.0 ++ c.args.node ∷ c.args.other ∷ r.1) =
    subst (AreLinked s.next.items s.prev.items) (c.self.view_is ∙ r.2) c.self.invariant in
    seen_list _ _ _ _ c.exchange.ensures.next (exchanged _ _ r.0 c.args.node c.args.other r.1 k)
