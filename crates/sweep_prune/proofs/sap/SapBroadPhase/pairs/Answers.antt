-- The full overlaps are the pairs of boxes that meet.
use Rattle.std.proofs.Common.{◌++◌, ap, ◌∙◌}
use Rattle.std.proofs.lemmas.Result.{on_ok_weaker}
use Rattle.broad_index.specs.Near.{near}
use Rattle.broad_index.specs.NearRises.{near_rises}
use Rattle.sweep_prune.proofs.FullLemmas.{near_are}
use Rattle.sweep_prune.proofs.sap.SapBroadPhase.pairs.Goals as goal

pub returns-clause-ok : goal.returns-clause-ok
returns-clause-ok c =
    let k = c.self.invariant c.if-self.false in
    let bodies = c.self.inside.plain.bodies in
    on_ok_weaker c.push_full.result
    (λ h. h (near bodies) (near_rises bodies)
    (λ p. near_are bodies _ _ _ c.self.inside.core.lists p k.1 (c.overlap_laws.ensures bodies p))
    ∙ ap (λ i. c.args.out.now.items ++ near i.bodies) c.self.view_is)
    c.push_full.ensures.ok
