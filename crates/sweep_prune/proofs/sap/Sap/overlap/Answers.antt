-- The count is that of the lists, whose places are the boxes' axes.
use Rattle.std.proofs.Common.{ap, ◌∙◌}
use Rattle.sweep_prune.specs.Overlaps.{axes}
use Rattle.sweep_prune.proofs.FullLemmas.{places_are}
use Rattle.sweep_prune.proofs.sap.Sap.overlap.Goals as goal

pub returns : goal.returns
returns c =
    let k = c.self.invariant (ap (λ i. i.spent) c.self.view_is ∙ c.requires.sound) in
    c.count.ensures.count c.requires.order ∙ places_are c.self.inside.plain.bodies _ _ _ c.self.inside.core.lists c.args.a c.args.b k.1
    ∙ ap (λ i. axes i.bodies c.args.a c.args.b) c.self.view_is
