-- One box more goes.
use Rattle.std.proofs.Common.{◌≡◌, ◌∷◌, ◌∙◌, Err, ap, rules}
use Rattle.box_world.specs.Answers.{State}
use Rattle.any_world.specs.AnyWorld.{state_of}
use Rattle.held_world.specs.Changes.{removes}
use Rattle.held_world.proofs.BatchUnderWay.{batch_goes_on}
use Rattle.held_world.proofs.held.HeldWorld.remove_all.Goals as goal

pub removes-preserved : goal.removes-preserved
removes-preserved c =
    let first : c.removes.rest.now ≡ c.in-Some.next.now ∷ c.in-Some.more.now = search rules in record {
      batch = batch_goes_on removes c.args.handles.now c.removes.rest.now c.in-Some.more.now c.in-Some.next.now c.removes.count
          (state_of c.args.self.now.world) (state_of c.removes.self.world) (state_of c.remove.new.self.world) c.removes.invariant.batch first
          c.in-Ok.ensures.step;
      spent = c.in-Ok.ensures.spent ∙ c.removes.invariant.spent;
      structure = c.in-Ok.ensures.structure ∙ c.removes.invariant.structure;
      room = c.in-Ok.ensures.room ∙ c.removes.invariant.room;
    }

pub returns-in-Err-clause-unmarked : goal.returns-in-Err-clause-unmarked
returns-in-Err-clause-unmarked c sound none told =
    c.in-Err.ensures.unmarked (c.removes.invariant.spent ∙ sound) (ap (λ (s : State). s.time.marks) c.removes.invariant.batch.made ∙ none) (ap Err told)
