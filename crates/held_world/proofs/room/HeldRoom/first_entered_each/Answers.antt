-- One ray more is answered, or the first is refused.
use Rattle.std.proofs.Common.{◌∙◌, refl, arith}
use Rattle.live_queries.specs.First.{IsFirstEntered}
use Rattle.any_world.specs.AnyWorld.{state_of}
use Rattle.held_world.specs.declared.answers.Reply.{Reply}
use Rattle.held_world.specs.declared.plain.PwHit.{PwHit}
use Rattle.held_world.specs.declared.questions.PwRay.{PwRay}
use Rattle.held_world.specs.Firsts.{AsksFirst}
use Rattle.held_world.specs.Plain.{groups_in, ray_in}
use Rattle.held_world.proofs.EachAnswered.{all_answered, none_answered, one_answered, one_refused}
use Rattle.held_world.proofs.room.HeldRoom.first_entered_each.Goals as goal

pub rays-init : goal.rays-init
rays-init c =
    let state = state_of c.args.world.now in
    let says : PwRay → Reply → PwHit → PwHit → Type 0 = λ ray. AsksFirst (IsFirstEntered state.time.now.table.entries (ray_in ray) (groups_in ray.mask)) state.spent in
    record { answered = none_answered says c.args.rays.now c.args.out.now; same = refl }

pub returns-then-reply-ne-OK-clause-answer : goal.returns-then-reply-ne-OK-clause-answer
returns-then-reply-ne-OK-clause-answer c =
    let state = state_of c.args.world.now in
    let says : PwRay → Reply → PwHit → PwHit → Type 0 = λ ray. AsksFirst (IsFirstEntered state.time.now.table.entries (ray_in ray) (groups_in ray.mask)) state.spent in
    let told = rw c.no_hit-hit.ensures at c.first_entered-reply.ensures.answer in
    record {
      short = λ less. absurd (omega arith);
      enough = λ enough. one_refused says c.args.rays.now _ c.rays.count c.first_entered-reply.result c.args.out.now c.rays.out c.first_entered-reply.new.out
          c.rays.invariant.answered (omega arith) c.if-reply-ne-OK.true told;
    }

pub rays-preserved : goal.rays-preserved
rays-preserved c =
    let state = state_of c.args.world.now in
    let says : PwRay → Reply → PwHit → PwHit → Type 0 = λ ray. AsksFirst (IsFirstEntered state.time.now.table.entries (ray_in ray) (groups_in ray.mask)) state.spent in
    let told = rw c.no_hit-hit.ensures at c.first_entered-reply.ensures.answer in
    record {
      answered = one_answered says c.args.rays.now _ c.rays.count c.first_entered-reply.result c.args.out.now c.rays.out c.first_entered-reply.new.out
          c.rays.invariant.answered (omega arith) (omega (arith, c.rays.auto.out)) c.if-reply-ne-OK.false told;
      same = c.first_entered-reply.ensures.same ∙ c.rays.invariant.same;
    }

pub returns-clause-answer : goal.returns-clause-answer
returns-clause-answer c =
    let state = state_of c.args.world.now in
    let says : PwRay → Reply → PwHit → PwHit → Type 0 = λ ray. AsksFirst (IsFirstEntered state.time.now.table.entries (ray_in ray) (groups_in ray.mask)) state.spent in
    record {
      short = λ less. absurd (omega arith);
      enough = λ enough. all_answered says c.args.rays.now c.rays.count c.args.out.now c.rays.out c.rays.invariant.answered (omega arith);
    }

pub returns-then-reply-ne-OK-clause-same : goal.returns-then-reply-ne-OK-clause-same
returns-then-reply-ne-OK-clause-same c = c.first_entered-reply.ensures.same ∙ c.rays.invariant.same
