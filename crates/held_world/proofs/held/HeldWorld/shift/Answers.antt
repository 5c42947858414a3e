-- The step is what the world answered.
use Rattle.std.proofs.Common.{sym, ◌∙◌}
use Rattle.any_world.specs.AnyWorld.{state_of, counts_of}
use Rattle.held_world.proofs.MoveAnswered.{move_done, move_refused}
use Rattle.held_world.proofs.held.HeldWorld.shift.Goals as goal

pub returns-in-Ok-clause-step : goal.returns-in-Ok-clause-step
returns-in-Ok-clause-step c =
    move_done (counts_of c.args.self.now.world) (state_of c.args.self.now.world) (state_of c.shift.new.self) c.args.handle.now c.args.body.now
    c.handle_of.result c.in-Some.body c.handle_of.ensures (sym c.body_of.ensures ∙ c.in-Some.is) c.in-Ok.ensures.answer

pub returns-in-Err-clause-step : goal.returns-in-Err-clause-step
returns-in-Err-clause-step c =
    move_refused (counts_of c.args.self.now.world) (state_of c.args.self.now.world) (state_of c.shift.new.self) c.args.handle.now c.args.body.now
    c.handle_of.result c.in-Some.body c.in-Err.refusal c.status_of.result c.handle_of.ensures (sym c.body_of.ensures ∙ c.in-Some.is) c.status_of.ensures
    c.in-Err.ensures.answer
