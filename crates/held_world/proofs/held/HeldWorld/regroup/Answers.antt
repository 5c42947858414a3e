-- The status of what the world answers.
use Rattle.std.proofs.Common.{ℕ, sym, ◌∙◌, subst}
use Rattle.live_table.specs.declared.handle.Handle.{Handle}
use Rattle.live_table.specs.declared.group.Group.{Group}
use Rattle.box_world.specs.World.{regrouped}
use Rattle.box_world.specs.Answers.{Answers, with_world, change_refusal}
use Rattle.any_world.specs.AnyWorld.{state_of}
use Rattle.held_world.specs.Plain.{handle_in, group_in}
use Rattle.held_world.specs.Tells.{Tells}
use Rattle.held_world.proofs.Told.{told, untold}
use Rattle.held_world.proofs.held.HeldWorld.regroup.Goals as goal

pub returns-clause-answer : goal.returns-clause-answer
returns-clause-answer c =
    let old = state_of c.args.self.now.world in let new = state_of c.regroup.new.self in let w = old.time.now in
    let cause = change_refusal w (handle_in c.args.handle.now) in
    let after = with_world old (regrouped w (handle_in c.args.handle.now) (group_in c.args.group.now)) in
    let answers = subst (λ (m : Group). Answers cause (with_world old (regrouped w (handle_in c.args.handle.now) m)) c.regroup.result old new) c.group_of.ensures
    (subst (λ (h : Handle). Answers (change_refusal w h) (with_world old (regrouped w h c.group_of.result)) c.regroup.result old new) c.handle_of.ensures
    c.regroup.ensures.answer) in
    subst (λ (n : ℕ). Tells cause after n old new) (sym c.status.ensures) (told cause after c.regroup.result old new answers)

pub returns-clause-unmarked : goal.returns-clause-unmarked
returns-clause-unmarked c sound none told = untold c.regroup.result (c.regroup.ensures.unmarked sound none) (sym c.status.ensures ∙ told)
