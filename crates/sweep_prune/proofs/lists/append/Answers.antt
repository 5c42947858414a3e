-- The maximum is absent once the minimum is put last.
use Rattle.std.proofs.Common.{◌≡◌, ◌∷◌, [], ◌*◌, ◌+◌, false, ap, ◌∙◌, arith, ne_eqb, ◌==◌, refl}
use Rattle.endpoint_list.specs.NodeList.{has}
use Rattle.sweep_prune.proofs.NodeLists.{has_append}
use Rattle.sweep_prune.proofs.lists.append.Goals as goal

pub push_last-requires-2-clause-absent : goal.push_last-requires-2-clause-absent
push_last-requires-2-clause-absent c =
    let even : (2 * c.args.slot == 2 * c.args.slot + 1) ≡ false = ne_eqb (2 * c.args.slot) (2 * c.args.slot + 1) (λ e. absurd (omega arith)) in
    ap (has (2 * c.args.slot + 1)) c.push_last.ensures.pushed ∙ has_append (2 * c.args.slot + 1) c.args.list.now (2 * c.args.slot ∷ [])
    ∙ (rw (c.requires.no_max, even) refl)
