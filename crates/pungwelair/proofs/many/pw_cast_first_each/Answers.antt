-- The world is taken out, asked and put back.
use Rattle.std.proofs.Common.{◌≡◌, Some, sym, ap, ◌∙◌, subst}
use Rattle.std.specs.Prelude.{Option}
use Rattle.any_world.specs.AnyWorld.{state_of}
use Rattle.held_world.specs.Firsts.{AsksFirstCast}
use Rattle.held_world.specs.Many.{AsksEach}
use Rattle.held_world.specs.Plain.{cast_in}
use Rattle.held_world.specs.declared.answers.Reply.{Reply}
use Rattle.held_world.specs.declared.held.HeldWorld.{HeldWorld}
use Rattle.pungwelair.specs.Exports.{Calls, IsClosed}
use Rattle.pungwelair.proofs.many.pw_cast_first_each.Goals as goal

pub returns : goal.returns
returns c =
    let reply : Reply = c.first_cast_each-reply.result in
    let says : HeldWorld → HeldWorld → Type 0 = λ was now. (now ≡ was) × (let state = state_of was.world in
    AsksEach (λ cast. AsksFirstCast (cast_in cast) state.time.now.table.entries cast.mask state.spent) c.args.casts.now reply c.args.out.now
    c.first_cast_each-reply.new.out) in
    let closed = IsClosed reply c.args.out.now c.first_cast_each-reply.new.out in
    let held : HeldWorld = c.in-Some.held.value in
    let asked = rw c.deref_mut-open.ensures.value at c.first_cast_each-reply.ensures.answer in
    let same = ap (λ room. record c.deref_mut-open.result.now { room = room }) c.first_cast_each-reply.ensures.same ∙ c.deref_mut-open.ensures.value in
    let after : Calls says closed (Some held) c.put.new.self.held.inner =
    subst (λ (x : Option HeldWorld). Calls says closed (Some held) x) (sym c.put.ensures.held) (same, asked) in
    subst (λ (x : Option HeldWorld). Calls says closed x c.put.new.self.held.inner) c.in-Some.ensures.taken after
