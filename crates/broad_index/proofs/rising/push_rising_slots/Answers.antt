-- a rising list with the members of another is that list
use Rattle.std.proofs.Common.{◌++◌, ◌∙◌, ap}
use Rattle.broad_index.proofs.Answering.{found_is, reach_is}
use Rattle.broad_index.proofs.rising.push_rising_slots.Goals as goal

pub returns-clause-found : goal.returns-clause-found
returns-clause-found c bodies query is =
    let one = found_is bodies query c.settle_slots.new.slots.items c.settle_slots.ensures.rises (λ k. c.settle_slots.ensures.members k ∙ is k) in
    c.in_ok-extend_from_slice.ensures.items ∙ ap (λ ks. c.args.out.now.items ++ ks) (c.deref.ensures.value ∙ one)

pub returns-clause-reach : goal.returns-clause-reach
returns-clause-reach c bodies slot is =
    let one = reach_is bodies slot c.settle_slots.new.slots.items c.settle_slots.ensures.rises (λ k. c.settle_slots.ensures.members k ∙ is k) in
    c.in_ok-extend_from_slice.ensures.items ∙ ap (λ ks. c.args.out.now.items ++ ks) (c.deref.ensures.value ∙ one)
