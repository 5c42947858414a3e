-- a sort keeps the members, and so does a removal of repeats
use Rattle.std.proofs.Common.{◌==◌, ap, ◌∙◌}
use lib.Dec.{eqb}
use Rattle.std.proofs.lemmas.Bool.{eqb-true}
use Rattle.broad_index.specs.Members.{has_slot, slots_rise}
use Rattle.broad_index.proofs.Settled.{any_settled, slots_settled}
use Rattle.broad_index.proofs.rising.settle_front.Goals as goal

pub returns-clause-members : goal.returns-clause-members
returns-clause-members c k =
    ap (λ ks. has_slot ks k) c.move_distinct.ensures.distinct
    ∙ any_settled eqb (λ x y e. eqb-true x y e) (λ x. k == x) c.args.slots.now c.sort_unstable.new.self c.sort_unstable.ensures.permutation

pub returns-clause-rises : goal.returns-clause-rises
returns-clause-rises c = ap slots_rise c.move_distinct.ensures.distinct ∙ slots_settled c.sort_unstable.new.self c.sort_unstable.ensures.sorted
