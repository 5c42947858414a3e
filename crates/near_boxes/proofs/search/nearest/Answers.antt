-- The front of what was found is the front of all.
use Rattle.std.proofs.Common.{◌++◌, take, ap, ◌∙◌}
use Rattle.ordered_lists.specs.Ordered.{ordered_by}
use Rattle.near_boxes.specs.Nearest.{near_cmp}
use Rattle.near_boxes.specs.NearOrder.{ties_one}
use Rattle.near_boxes.proofs.search.nearest.Goals as goal

pub returns-clause-ok : goal.returns-clause-ok
returns-clause-ok g c =
    c.in_ok-push_front_in_order.ensures.ok (ties_one c.deref_mut.result.now)
    ∙ ap (λ l. c.args.out.now.items ++ l) (ap (λ l. take c.args.want (ordered_by near_cmp l)) c.deref_mut.ensures.value ∙ c.in_ok-find_enough.ensures)
