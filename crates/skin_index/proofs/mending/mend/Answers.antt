-- What was found is what the marked slots reach.
use Rattle.std.proofs.Common.{sym, subst}
use Rattle.broad_index.specs.Touched.{Renewed}
use Rattle.skin_index.proofs.mending.mend.Goals as goal

pub returns-clause-ok : goal.returns-clause-ok
returns-clause-ok c skins h is =
    let marked = c.args.marked.now in
    let kept = c.args.kept.now.items in
    let found = c.args.room.now.found.items in
    c.renew_pairs.ensures.near skins
    (subst (λ ms. Renewed skins ms kept found) (sym c.as_slice.ensures.value)
    (subst (λ ps. Renewed skins marked.marks kept ps) (sym is)
    (c.keeping_laws.ensures.marked_sought skins marked.marks kept marked.slots.items (λ k _. h.listed k) h.right)))
