-- One question more is answered, or the first is none.
use Rattle.std.proofs.Common.{◌≡◌, List, arith, refl, subst, sym, ap, ◌∙◌}
use Rattle.any_world.specs.AnyWorld.{state_of}
use Rattle.live_table.specs.declared.handle.Handle.{Handle}
use Rattle.held_world.specs.Copies.{copied}
use Rattle.held_world.specs.Many.{AnswersAll}
use Rattle.held_world.specs.Plain.{handle_out}
use Rattle.held_world.proofs.EachAnswered.{all_found, none_found, one_found, one_unanswered}
use Rattle.held_world.proofs.room.HeldRoom.hits_each.Goals.{else-queries-test, then-queries-test+then-status-ne-OK}
use Rattle.held_world.proofs.room.HeldRoom.hits_each.Goals as goal

pub queries-init : goal.queries-init
queries-init c =
    let state = state_of c.args.world.now in
    record {
      found = none_found state.time.now.table.entries state.spent c.args.queries.now c.clear.new.self.items c.args.ends.now c.clear.ensures.items;
      ok = refl;
    }

pub queries-preserved : goal.queries-preserved
queries-preserved c =
    let state = state_of c.args.world.now in
    let more = c.find_more-status.ensures in
    let ok = c.if-status-ne-OK.false in
    record {
      found = one_found state.time.now.table.entries state.spent c.args.queries.now _ c.queries.count c.len.result c.queries.self.found.items
          c.find_more-status.new.self.found.items c.args.ends.now c.queries.ends c.queries.invariant.found (omega arith) (omega (arith, c.queries.auto.ends))
          (more.sound ok) (more.found ok) (more.asked ok) (omega (arith, c.len.ensures, c.find_more-status.new.self.found.ok.0));
      ok = ok;
    }

pub returns : goal.returns
returns c =
    let state = state_of c.args.world.now in
    let entries = state.time.now.table.entries in
    let room = c.args.out.now in
    let out = c.copy_handles.new.out in
    record {
      short = λ less. absurd (omega arith);
      enough = λ enough. elim c.queries-test.branch as
          (λ _. AnswersAll entries state.spent c.args.queries.now (record { status = c.queries-test.status; count = c.queries.count }) room out c.args.ends.now
          c.queries.ends) [
            | else-queries-test w ↦
                let is : out ≡ copied handle_out c.queries.self.found.items room =
                c.copy_handles.ensures.copied ∙ ap (λ (l : List Handle). copied handle_out l room) (c.deref.ensures.value ∙ ap (λ s. s.found.items) w.self-is) in
                subst (λ s. AnswersAll entries state.spent c.args.queries.now (record { status = s; count = c.queries.count }) room out c.args.ends.now
                c.queries.ends) (sym (w.status-is ∙ c.queries.invariant.ok))
                (all_found entries state.spent c.args.queries.now c.queries.count c.queries.self.found.items c.args.ends.now c.queries.ends room out
                c.queries.invariant.found (omega (arith, w.queries-test.false)) is)
            | then-queries-test+then-status-ne-OK w ↦
                let none = w.find_more-status.ensures.none w.if-status-ne-OK.true in
                let is : out ≡ copied handle_out w.find_more-status.new.self.found.items room =
                c.copy_handles.ensures.copied ∙ ap (λ (l : List Handle). copied handle_out l room) (c.deref.ensures.value ∙ ap (λ s. s.found.items) w.self-is) in
                subst (λ s. AnswersAll entries state.spent c.args.queries.now (record { status = s; count = c.queries.count }) room out c.args.ends.now
                c.queries.ends) (sym w.status-is)
                (one_unanswered entries state.spent c.args.queries.now _ c.queries.count w.find_more-status.result c.queries.self.found.items
                w.find_more-status.new.self.found.items c.args.ends.now c.queries.ends room out c.queries.invariant.found (omega (arith, w.queries-test.true))
                none.0 none.1 is)
          ];
    }
