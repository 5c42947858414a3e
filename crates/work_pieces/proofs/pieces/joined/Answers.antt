-- the lists that were taken are put together
use Rattle.std.proofs.Common.{sym, ◌∙◌}
use Rattle.std.specs.Vec.Iter.{into_iter_items}
use Rattle.work_pieces.proofs.PutTogether.{one_list, all_lists}
use Rattle.work_pieces.proofs.pieces.joined.Goals as goal

pub lists-preserved : goal.lists-preserved
lists-preserved g c =
    one_list (λ list. list.items) c.args.lists.items c.lists.yielded (into_iter_items c.lists.list-iterator) (into_iter_items c.next.new.self)
    c.in-Some.list c.lists.answers.items c.append.new.self.items c.lists.invariant.1 c.in-Some.ensures.steps.0 c.lists.invariant.0 c.in_ok-append.ensures.items

pub returns : goal.returns
returns g c =
    all_lists (λ list. list.items) c.args.lists.items c.lists.yielded (into_iter_items c.lists.list-iterator) c.lists.answers.items
    c.lists.invariant.1 (sym c.lists.list-iterator.rest.ok.0 ∙ c.in-None.ensures.steps.0) c.lists.invariant.0
