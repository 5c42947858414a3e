-- One cast more is answered, or the first is refused.
use Rattle.std.proofs.Common.{◌∙◌, refl, arith}
use Rattle.any_world.specs.AnyWorld.{state_of}
use Rattle.held_world.specs.declared.answers.Reply.{Reply}
use Rattle.held_world.specs.declared.plain.PwHit.{PwHit}
use Rattle.held_world.specs.declared.questions.PwCast.{PwCast}
use Rattle.held_world.specs.Firsts.{AsksFirstCast}
use Rattle.held_world.specs.Plain.{cast_in}
use Rattle.held_world.proofs.EachAnswered.{all_answered, none_answered, one_answered, one_refused}
use Rattle.held_world.proofs.room.HeldRoom.first_cast_each.Goals as goal

pub casts-init : goal.casts-init
casts-init c =
    let state = state_of c.args.world.now in
    let says : PwCast → Reply → PwHit → PwHit → Type 0 = λ cast. AsksFirstCast (cast_in cast) state.time.now.table.entries cast.mask state.spent in
    record { answered = none_answered says c.args.casts.now c.args.out.now; same = refl }

pub returns-then-reply-ne-OK-clause-answer : goal.returns-then-reply-ne-OK-clause-answer
returns-then-reply-ne-OK-clause-answer c =
    let state = state_of c.args.world.now in
    let says : PwCast → Reply → PwHit → PwHit → Type 0 = λ cast. AsksFirstCast (cast_in cast) state.time.now.table.entries cast.mask state.spent in
    let told = rw c.no_hit-hit.ensures at c.first_cast-reply.ensures.answer in
    record {
      short = λ less. absurd (omega arith);
      enough = λ enough. one_refused says c.args.casts.now _ c.casts.count c.first_cast-reply.result c.args.out.now c.casts.out c.first_cast-reply.new.out
          c.casts.invariant.answered (omega arith) c.if-reply-ne-OK.true told;
    }

pub casts-preserved : goal.casts-preserved
casts-preserved c =
    let state = state_of c.args.world.now in
    let says : PwCast → Reply → PwHit → PwHit → Type 0 = λ cast. AsksFirstCast (cast_in cast) state.time.now.table.entries cast.mask state.spent in
    let told = rw c.no_hit-hit.ensures at c.first_cast-reply.ensures.answer in
    record {
      answered = one_answered says c.args.casts.now _ c.casts.count c.first_cast-reply.result c.args.out.now c.casts.out c.first_cast-reply.new.out
          c.casts.invariant.answered (omega arith) (omega (arith, c.casts.auto.out)) c.if-reply-ne-OK.false told;
      same = c.first_cast-reply.ensures.same ∙ c.casts.invariant.same;
    }

pub returns-clause-answer : goal.returns-clause-answer
returns-clause-answer c =
    let state = state_of c.args.world.now in
    let says : PwCast → Reply → PwHit → PwHit → Type 0 = λ cast. AsksFirstCast (cast_in cast) state.time.now.table.entries cast.mask state.spent in
    record {
      short = λ less. absurd (omega arith);
      enough = λ enough. all_answered says c.args.casts.now c.casts.count c.args.out.now c.casts.out c.casts.invariant.answered (omega arith);
    }

pub returns-then-reply-ne-OK-clause-same : goal.returns-then-reply-ne-OK-clause-same
returns-then-reply-ne-OK-clause-same c = c.first_cast-reply.ensures.same ∙ c.casts.invariant.same
