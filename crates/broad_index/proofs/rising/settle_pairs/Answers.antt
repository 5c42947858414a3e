-- a sort keeps the members, and so does a removal of repeats
use Rattle.std.proofs.Common.{◌≡◌, ◌∙◌, ap}
use Rattle.std.specs.List.{dedup}
use Rattle.std.proofs.lemmas.List.Filters.{dedup_is}
use Rattle.broad_index.specs.Near.{rises}
use Rattle.broad_index.specs.Members.{same_pair, has_pair}
use Rattle.broad_index.specs.PairLaws.{is_same}
use Rattle.broad_index.proofs.Settled.{declared_same, same_either_way, any_settled, pairs_settled}
use Rattle.broad_index.proofs.rising.settle_pairs.Goals as goal

left : (c : goal.After-dedup) → c.dedup.new.self.items ≡ dedup same_pair c.sort_unstable.new.self.items
left c =
    dedup_is declared_same c.sort_unstable.new.self.items c.dedup.new.self.items c.dedup.ensures.filtered
    ∙ ap (λ same. dedup same c.sort_unstable.new.self.items) same_either_way

pub returns-clause-members : goal.returns-clause-members
returns-clause-members c p =
    ap (λ ps. has_pair ps p) (left c)
    ∙ any_settled same_pair is_same (same_pair p) c.args.pairs.now.items c.sort_unstable.new.self.items c.sort_unstable.ensures.permutation

pub returns-clause-rises : goal.returns-clause-rises
returns-clause-rises c = ap rises (left c) ∙ pairs_settled c.sort_unstable.new.self.items c.sort_unstable.ensures.sorted
