-- Each box takes a slot that is absent.
use Rattle.std.proofs.Common.{ap, ◌∙◌, is_some}
use Rattle.std.proofs.lemmas.Cmp.{nat_cmp_total}
use Rattle.std.specs.FinMap.{contains_key, get-empty, get-insert}
use Rattle.std.specs.Ordering.{nat_cmp}
use Rattle.box_tests.proofs.nearest_boxes.the_nearest_come_by_square_and_then_by_slot.Goals as goal

pub add-requires-clause-absent : goal.add-requires-clause-absent
add-requires-clause-absent g c _ = ap (λ m. contains_key m 0) c.in_ok-index.ensures.none ∙ ap is_some (get-empty nat_cmp 0)

pub add-requires-2-clause-absent : goal.add-requires-2-clause-absent
add-requires-2-clause-absent g c _ =
    ap (λ m. contains_key m 1) c.in_ok-add.ensures.ok
    ∙ ap is_some (get-insert nat_cmp_total c.in_ok-index.index.bodies 0 c.in_ok-ok_or.field-0 1)
    ∙ ap (λ m. contains_key m 1) c.in_ok-index.ensures.none
    ∙ ap is_some (get-empty nat_cmp 1)

pub add-requires-3-clause-absent : goal.add-requires-3-clause-absent
add-requires-3-clause-absent g c _ =
    ap (λ m. contains_key m 2) c.in_ok-add-2.ensures.ok
    ∙ ap is_some (get-insert nat_cmp_total c.add.new.self.bodies 1 c.in_ok-ok_or-2.field-0 2)
    ∙ ap (λ m. contains_key m 2) c.in_ok-add.ensures.ok
    ∙ ap is_some (get-insert nat_cmp_total c.in_ok-index.index.bodies 0 c.in_ok-ok_or.field-0 2)
    ∙ ap (λ m. contains_key m 2) c.in_ok-index.ensures.none
    ∙ ap is_some (get-empty nat_cmp 2)
