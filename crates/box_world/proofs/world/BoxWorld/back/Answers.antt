-- Where memory runs out in the index the world has what it had.
use Rattle.std.proofs.Common.{refl}
use Rattle.box_world.proofs.Refused.{cut_off, spent_from}
use Rattle.box_world.proofs.world.BoxWorld.back.Goals as goal

pub returns-in-Err-clause-answer : goal.returns-in-Err-clause-answer
returns-in-Err-clause-answer g c =
    rw (← c.self.view_is) (cut_off _ _ _ c.if-self.false refl
    (spent_from g.B.BroadPhase.exchanges g.B.BroadPhase.spent c.self.inside.spent c.self.inside.parts c.back.new.self c.in-Err.ensures.cut_off))
