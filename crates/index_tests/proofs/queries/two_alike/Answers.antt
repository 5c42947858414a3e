-- which slots are there at each change
use Rattle.std.proofs.Common.{ap, ◌∙◌, is_some}
use Rattle.std.proofs.lemmas.Cmp.{nat_cmp_total}
use Rattle.std.specs.FinMap.{contains_key, get-empty, get-insert}
use Rattle.std.specs.Ordering.{nat_cmp}
use Rattle.index_tests.proofs.queries.two_alike.Goals as goal

pub add-requires-clause-absent : goal.add-requires-clause-absent
add-requires-clause-absent c _ = ap (λ m. contains_key m 4) c.in_ok-index.ensures.none ∙ ap is_some (get-empty nat_cmp 4)

pub add-requires-2-clause-absent : goal.add-requires-2-clause-absent
add-requires-2-clause-absent c _ =
    ap (λ m. contains_key m 2) c.in_ok-add.ensures.ok
    ∙ ap is_some (get-insert nat_cmp_total c.in_ok-index.index.bodies 4 c.args.here 2)
    ∙ ap (λ m. contains_key m 2) c.in_ok-index.ensures.none
    ∙ ap is_some (get-empty nat_cmp 2)
