-- Without a mark nothing is noted, which alone takes memory.
use Rattle.std.proofs.Common.{ap, ◌∙◌}
use Rattle.box_world.specs.Parts.{world_in}
use Rattle.box_world.proofs.Marked.{no_worlds}
use Rattle.box_world.proofs.world.BoxWorld.regroup.Goals as goal

pub returns-in_err-before-clause-unmarked : goal.returns-in_err-before-clause-unmarked
returns-in_err-before-clause-unmarked g c sound none told =
    let parts = c.self.inside.parts in
    let marks = no_worlds (world_in g.B.BroadPhase.exchanges parts) parts.marks.marks (ap (λ s. s.time.marks) c.self.view_is ∙ none) in
    let noted = c.in_err-before.ensures.unmarked marks in cc
