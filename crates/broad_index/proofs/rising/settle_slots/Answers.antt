-- a sort keeps the members, and so does a removal of repeats
use Rattle.std.proofs.Common.{◌≡◌, ◌∙◌, ◌==◌, ap}
use lib.Dec.{eqb}
use Rattle.std.specs.List.{dedup}
use Rattle.std.proofs.lemmas.Bool.{eqb-true}
use Rattle.std.proofs.lemmas.List.Filters.{dedup_is}
use Rattle.broad_index.specs.Members.{has_slot, slots_rise}
use Rattle.broad_index.proofs.Settled.{any_settled, slots_settled}
use Rattle.broad_index.proofs.rising.settle_slots.Goals as goal

left : (c : goal.After-dedup) → c.dedup.new.self.items ≡ dedup eqb c.sort_unstable.new.self.items
left c = dedup_is eqb c.sort_unstable.new.self.items c.dedup.new.self.items c.dedup.ensures.filtered

pub returns-clause-members : goal.returns-clause-members
returns-clause-members c k =
    ap (λ ks. has_slot ks k) (left c)
    ∙ any_settled eqb (λ x y e. eqb-true x y e) (λ x. k == x) c.args.slots.now.items c.sort_unstable.new.self.items c.sort_unstable.ensures.permutation

pub returns-clause-rises : goal.returns-clause-rises
returns-clause-rises c = ap slots_rise (left c) ∙ slots_settled c.sort_unstable.new.self.items c.sort_unstable.ensures.sorted
