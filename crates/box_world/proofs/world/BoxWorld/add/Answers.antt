-- The parts have the box, and stand for the world with it.
use Rattle.std.proofs.Common.{ap, sym, ◌∙◌, reverse}
use Rattle.box_world.specs.World.{added}
use Rattle.box_world.specs.Parts.{world_in, worlds_back, timeline, state_in}
use Rattle.box_world.proofs.Refused.{may_add, slot_left, ran_out, same_state, cut_off, spent_from}
use Rattle.box_world.proofs.world.BoxWorld.add.Goals as goal

pub returns-in-Ok-clause-answer : goal.returns-in-Ok-clause-answer
returns-in-Ok-clause-answer g c =
    let parts = c.self.inside.parts in
    let w = world_in g.B.BroadPhase.exchanges parts in
    let now = added g.B.BroadPhase.COUNTS w c.args.body c.args.masks c.args.group in
    let tells = c.in-Ok.ensures.added.tells in
    rw (← c.self.view_is) (record {
      sound = c.if-self.false;
      allowed = may_add w (λ e. c.if-len-eq-SLOTS.false (c.len.ensures.len ∙ e))
          (slot_left c.in-Some.handle parts.table c.in-Some.ensures.handle c.in-Some.ensures.small)
          (sym c.is_counted_out.ensures ∙ c.if-is_counted_out.false);
      done = same_state _ _ _ _ _ _ _ _ _
          (c.in-Ok.ensures.added.time ∙ ap (λ ms. record { now = now; marks = worlds_back w (reverse ms) }) c.in_ok-room.ensures.marks)
          tells.told (ap (λ v. v.items) tells.began) (ap (λ v. v.items) tells.over);
    })

pub returns-in_err-room-clause-answer : goal.returns-in_err-room-clause-answer
returns-in_err-room-clause-answer g c =
    let parts = c.self.inside.parts in
    let w = world_in g.B.BroadPhase.exchanges parts in
    rw (← c.self.view_is) (ran_out _ _ _ _ c.from_residual.result c.from_residual.ensures.1 c.if-self.false
    (may_add w (λ e. c.if-len-eq-SLOTS.false (c.len.ensures.len ∙ e)) (slot_left c.in-Some.handle parts.table c.in-Some.ensures.handle c.in-Some.ensures.small)
    (sym c.is_counted_out.ensures ∙ c.if-is_counted_out.false))
    (ap (λ ms. record (state_in g.B.BroadPhase.exchanges c.self.inside.spent parts) { time = timeline w ms }) c.in_err-room.ensures.marks))

pub returns-in-Err-clause-answer : goal.returns-in-Err-clause-answer
returns-in-Err-clause-answer g c =
    let parts = c.self.inside.parts in
    let w = world_in g.B.BroadPhase.exchanges parts in
    let is = c.in-Err.ensures.cut_off in
    rw (← c.self.view_is) (cut_off _ _ _ c.if-self.false
    (may_add w (λ e. c.if-len-eq-SLOTS.false (c.len.ensures.len ∙ e)) (slot_left c.in-Some.handle parts.table c.in-Some.ensures.handle c.in-Some.ensures.small)
    (sym c.is_counted_out.ensures ∙ c.if-is_counted_out.false))
    (spent_from g.B.BroadPhase.exchanges g.B.BroadPhase.spent c.self.inside.spent parts c.add.new.self
    (record { index = is.index; table = is.table; last = is.last; marks = is.marks ∙ c.in_ok-room.ensures.marks; frames = is.frames; tells = record { told = is.tells.told; began = is.tells.began; over = is.tells.over } })))
