-- The list is cut before the node, and what comes after begins with the next one.
use Rattle.std.proofs.Common.{◌≡◌, ◌++◌, ◌∷◌, true, ap, sym, ◌∙◌, arith}
use Rattle.endpoint_list.specs.NodeList.{has}
use Rattle.sweep_prune.specs.Places.{on}
use Rattle.index_tests.proofs.sweeps.by_hand.exchange_at.Goals as goal

pub next-requires : goal.next-requires
next-requires c =
    let there : has c.args.node c.list-2.result.now ≡ true =
    ap (has c.args.node) (c.list-2.ensures.list ∙ sym c.list.ensures.list) ∙ sym c.has.ensures.has ∙ c.if-not-has.false in
    c.list_laws.ensures.cut c.args.node c.list-2.result.now there

pub exchange-requires-clause-next : goal.exchange-requires-clause-next
exchange-requires-clause-next c =
    let there : has c.args.node (on c.args.axis c.args.core.now.lists) ≡ true =
    ap (has c.args.node) (sym c.list.ensures.list) ∙ sym c.has.ensures.has ∙ c.if-not-has.false in
    let at = c.list_laws.ensures.cut c.args.node (on c.args.axis c.args.core.now.lists) there in
    let rest = c.list_laws.ensures.begins c.in-Some.other at.1 (sym (c.next.ensures.next at.0 at.1 (c.list-2.ensures.list ∙ at.2)) ∙ c.in-Some.is) in
    (at.0, rest.0, c.in-Some.other, at.2 ∙ ap (λ l. at.0 ++ c.args.node ∷ l) rest.1, c.if-node-other.true)

pub exchange-requires-clause-countable : goal.exchange-requires-clause-countable
exchange-requires-clause-countable c =
    let e = c.exchanged.ensures.exchanged in
    let below = c.exchanged.type_inv in
    let other = c.if-exchanged-eq18446744073709551615.false in
    omega (arith, e, below, other)
