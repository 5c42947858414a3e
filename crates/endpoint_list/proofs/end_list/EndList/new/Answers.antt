-- No node is linked.
use Rattle.std.proofs.Common.{refl, ap, set}
use Rattle.endpoint_list.proofs.LinkLemmas.{kept, seen}
use Rattle.endpoint_list.proofs.PushLemmas.{started}
use Rattle.endpoint_list.specs.declared.TheConstants.{NODES}
use Rattle.endpoint_list.proofs.end_list.EndList.new.Goals as goal

pub invariant_of-result : goal.invariant_of-result
invariant_of-result c =
    kept _ _ _ _ _ refl refl
    (started _ _ (ap (λ l. set l NODES NODES) (c.in_ok-next.ensures.items_if_clones_equal (λ y h. h)))
    (c.in_ok-vec.ensures.items_if_clones_equal (λ y h. h)))

pub returns : goal.returns
returns c =
    seen _ _ c.in_ok-vec.field-0.items _ refl
    (started _ _ (ap (λ l. set l NODES NODES) (c.in_ok-next.ensures.items_if_clones_equal (λ y h. h)))
    (c.in_ok-vec.ensures.items_if_clones_equal (λ y h. h)))
