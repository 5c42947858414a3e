-- The lists are the map's endpoints in order, and their places the boxes' axes.
use Rattle.std.proofs.Common.{refl, ap, ◌∙◌}
use Rattle.std.specs.FinMap.{contains_key}
use Rattle.sweep_prune.specs.Keyed.{keyed}
use Rattle.sweep_prune.specs.Overlaps.{axes}
use Rattle.sweep_prune.proofs.KeyedLemmas.{keyed_is}
use Rattle.sweep_prune.proofs.FullLemmas.{places_are}
use Rattle.sweep_prune.proofs.SweepLemmas.{min_known}
use Rattle.sweep_prune.proofs.sap.Sap.core.Goals as goal

pub returns-clause-lists : goal.returns-clause-lists
returns-clause-lists c axis =
    let k = c.self.invariant (ap (λ i. i.spent) c.self.view_is ∙ c.requires.sound) in
    keyed_is c.self.inside.plain.bodies _ _ _ c.self.inside.core.lists k.1 axis ∙ ap (λ i. keyed i.bodies axis) c.self.view_is

pub returns-clause-counts : goal.returns-clause-counts
returns-clause-counts c a b =
    let k = c.self.invariant (ap (λ i. i.spent) c.self.view_is ∙ c.requires.sound) in
    places_are c.self.inside.plain.bodies _ _ _ c.self.inside.core.lists a b k.1 ∙ ap (λ i. axes i.bodies a b) c.self.view_is

pub returns-clause-present : goal.returns-clause-present
returns-clause-present c axis slot =
    let k = c.self.invariant (ap (λ i. i.spent) c.self.view_is ∙ c.requires.sound) in
    min_known c.self.inside.plain.bodies _ _ _ c.self.inside.core.lists slot _ k.1 refl axis ∙ ap (λ i. contains_key i.bodies slot) c.self.view_is
