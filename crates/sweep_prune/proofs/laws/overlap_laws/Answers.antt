-- Two boxes meet where their intervals overlap on each axis.
use Rattle.std.proofs.Common.{◌&&◌, nat_lt, ap, sym, ◌∙◌}
use Rattle.std.specs.FinMap.{get}
use Rattle.sweep_prune.proofs.FullLemmas.{meets_of}
use Rattle.sweep_prune.proofs.laws.overlap_laws.Goals as goal

pub returns : goal.returns
returns c bodies p =
    c.member_laws.ensures.near bodies p ∙ ap (λ t. nat_lt p.a p.b && t) (sym (meets_of (get bodies p.a) (get bodies p.b)))
