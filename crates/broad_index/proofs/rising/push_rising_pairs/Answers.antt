-- a rising list with the members of another is that list
use Rattle.std.proofs.Common.{◌++◌, ◌∙◌, ap}
use Rattle.broad_index.proofs.Answering.{near_is}
use Rattle.broad_index.proofs.rising.push_rising_pairs.Goals as goal

pub returns-clause-near : goal.returns-clause-near
returns-clause-near c bodies is =
    let one = near_is bodies c.settle_pairs.new.pairs.items c.settle_pairs.ensures.rises (λ p. c.settle_pairs.ensures.members p ∙ is p) in
    c.in_ok-extend_from_slice.ensures.items ∙ ap (λ ps. c.args.out.now.items ++ ps) (c.deref.ensures.value ∙ one)
