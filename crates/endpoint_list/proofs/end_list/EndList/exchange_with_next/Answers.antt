-- The node that is read is the next one.
use Rattle.std.proofs.Common.{◌++◌, ◌∷◌, ◌∙◌, ap, subst, sym, arith}
use Rattle.endpoint_list.specs.Links.{AreLinked}
use Rattle.endpoint_list.proofs.ExchangeLemmas.{followed, next_read}
use Rattle.endpoint_list.proofs.end_list.EndList.exchange_with_next.Goals as goal

pub index-requires : goal.index-requires
index-requires c =
    let s = c.self.inside in
    let r = c.requires in
    let k : AreLinked s.next.items s.prev.items (r.0 ++ c.args.node ∷ r.2 ∷ r.1) =
    subst (AreLinked s.next.items s.prev.items) (c.self.view_is ∙ r.3) c.self.invariant in
    omega (arith, k.next_len, (followed _ _ r.0 c.args.node r.2 r.1 k).small)

pub exchange_neighbours-requires : goal.exchange_neighbours-requires
exchange_neighbours-requires c =
    let s = c.self.inside in
    let r = c.requires in
    let k : AreLinked s.next.items s.prev.items (r.0 ++ c.args.node ∷ r.2 ∷ r.1) =
    subst (AreLinked s.next.items s.prev.items) (c.self.view_is ∙ r.3) c.self.invariant in
    let is = c.from-other.ensures ∙ next_read s.next.items s.prev.items r.0 c.args.node r.2 r.1 c.index.result.now k c.index.ensures in
    (r.0, r.1, r.3 ∙ ap (λ o. r.0 ++ c.args.node ∷ o ∷ r.1) (sym is))

pub returns-clause-exchanged : goal.returns-clause-exchanged
returns-clause-exchanged c ys zs b h =
    let s = c.self.inside in
    let k : AreLinked s.next.items s.prev.items (ys ++ c.args.node ∷ b ∷ zs) =
    subst (AreLinked s.next.items s.prev.items) (c.self.view_is ∙ h) c.self.invariant in
    let is = c.from-other.ensures ∙ next_read s.next.items s.prev.items ys c.args.node b zs c.index.result.now k c.index.ensures in
    c.exchange_neighbours.ensures.exchanged ys zs (h ∙ ap (λ o. ys ++ c.args.node ∷ o ∷ zs) (sym is)) ∙ ap (λ o. ys ++ o ∷ c.args.node ∷ zs) is
