-- The query is held, and its answer is owed, or the run is answered.
use Rattle.std.proofs.Common.{◌≡◌, ◌++◌, ◌∷◌, [], sym, rules, refl}
use Rattle.std.proofs.lemmas.Result.{on_ok_weaker}
use Rattle.frame_player.specs.Outlet.{outlet_of}
use Rattle.frame_player.specs.Owed.{answer_line, owed}
use Rattle.frame_player.proofs.OwedAnswers.{one_more_owed, none_owed}
use Rattle.frame_player.proofs.Sending.{handed_none, handed_as, report_out_of_memory, sent_as, sent_held}
use Rattle.frame_player.proofs.query_run.gather.Goals as goal

pub returns-in_err-push-clause-sent : goal.returns-in_err-push-clause-sent
returns-in_err-push-clause-sent g c =
    let entries = c.args.player.now.world.time.now.table.entries in
    let text = c.args.out.now.text.now.items in
    report_out_of_memory c.args.out.now.sink.ghost_name (outlet_of g.K.Sink.written g.K.Sink.faults g.K.Sink.since c.args.out.now)
    ((text ++ owed entries c.args.run.now) ++ answer_line entries c.args.asked) (text ++ owed entries c.push.new.self) c.from_residual.result
    c.from_residual.ensures.1

pub returns-then-len-lt-LONGEST_RUN-clause-sent : goal.returns-then-len-lt-LONGEST_RUN-clause-sent
returns-then-len-lt-LONGEST_RUN-clause-sent g c =
    let here = outlet_of g.K.Sink.written g.K.Sink.faults g.K.Sink.since c.args.out.now in
    let run = c.args.run.now in
    let new = c.push.new.self in
    let entries = c.args.player.now.world.time.now.table.entries in
    let text = c.args.out.now.text.now.items in
    let is : new.asked.items ≡ run.asked.items ++ c.args.asked ∷ [] = search rules in
    let same = one_more_owed entries text run.asked.items new.asked.items c.args.asked is in (
      refl,
      handed_as here here (text ++ owed entries new) (text ++ owed entries new) ((text ++ owed entries run) ++ answer_line entries c.args.asked)
          (text ++ owed entries new) (sym same) refl (handed_none here (text ++ owed entries new)),
    )

pub returns-clause-sent : goal.returns-clause-sent
returns-clause-sent g c =
    let at = outlet_of g.K.Sink.written g.K.Sink.faults g.K.Sink.since in
    let run = c.args.run.now in
    let new = c.push.new.self in
    let entries = c.args.player.now.world.time.now.table.entries in
    let text = c.args.out.now.text.now.items in
    let is : new.asked.items ≡ run.asked.items ++ c.args.asked ∷ [] = search rules in
    let same = one_more_owed entries text run.asked.items new.asked.items c.args.asked is in
    let left = c.settle.new.out.text.now.items in
    let start = (text ++ owed entries run) ++ answer_line entries c.args.asked in (
      c.settle.ensures.sent.0,
      sent_held (at c.args.out.now) (at c.settle.new.out) start left (left ++ owed entries c.settle.new.run) c.settle.result
          (on_ok_weaker c.settle.result (λ none. none_owed entries left c.settle.new.run.asked.items none)
          c.settle.ensures.asked)
          (sent_as (at c.args.out.now) (at c.settle.new.out) (text ++ owed entries new) left start left c.settle.result (sym same) refl
          c.settle.ensures.sent.1),
    )
