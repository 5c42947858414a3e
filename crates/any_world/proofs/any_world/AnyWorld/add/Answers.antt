-- What sweep and prune answers is said of its world, which is the state of this one.
use Rattle.std.proofs.Common.{subst, sym}
use Rattle.box_world.specs.World.{added}
use Rattle.box_world.specs.Answers.{Answers, with_world, add_refusal}
use Rattle.any_world.specs.declared.any_world.AnyWorld.{AnyWorld}
use Rattle.any_world.specs.AnyWorld.{state_of, counts_of}
use Rattle.any_world.proofs.any_world.AnyWorld.add.Goals as goal

pub returns-in-Sap-clause-answer : goal.returns-in-Sap-clause-answer
returns-in-Sap-clause-answer c =
    subst (λ (w : AnyWorld). Answers (add_refusal (state_of w).time.now)
    (with_world (state_of w) (added (counts_of w) (state_of w).time.now c.args.body c.args.masks c.args.group))
    c.add-in-Sap.result (state_of w) c.add-in-Sap.new.self) (sym c.in-Sap.is) c.add-in-Sap.ensures.answer
