-- The answer to one query goes on, and those to the later ones are left.
use Rattle.std.proofs.Common.{◌≡◌, ◌++◌, ◌∷◌, ◌∙◌, rules, refl}
use Rattle.frame_player.specs.Outlet.{outlet_of}
use Rattle.frame_player.specs.Owed.{answer_line, answers}
use Rattle.frame_player.proofs.Sending.{sent_next, stopped_next, stopped_so}
use Rattle.frame_player.proofs.query_run.send_answers.Goals as goal

pub answers-preserved : goal.answers-preserved
answers-preserved g c =
    let at = outlet_of g.K.Sink.written g.K.Sink.faults g.K.Sink.since in
    let entries = c.args.table.now.entries in
    let line = answer_line entries c.in-Some.one.now in
    let later = answers entries c.in-Some.later.now in
    let asked : c.answers.rest.now ≡ c.in-Some.one.now ∷ c.in-Some.later.now = search rules in
    record {
      lists = search rules;
      same_sink = c.in_ok-send_answer.ensures.0 ∙ c.answers.invariant.same_sink;
      handed = sent_next (at c.args.out.now) (at c.answers.out) (at c.send_answer.new.out)
          (c.args.out.now.text.now.items ++ answers entries c.args.asked.now)
          c.answers.out.text.now.items (answers entries c.answers.rest.now) line later c.send_answer.new.out.text.now.items
          c.answers.invariant.handed (rw asked refl) c.in_ok-send_answer.ensures.1;
    }

pub returns-in_err-send_answer : goal.returns-in_err-send_answer
returns-in_err-send_answer g c =
    let at = outlet_of g.K.Sink.written g.K.Sink.faults g.K.Sink.since in
    let entries = c.args.table.now.entries in
    let line = answer_line entries c.in-Some.one.now in
    let later = answers entries c.in-Some.later.now in
    let asked : c.answers.rest.now ≡ c.in-Some.one.now ∷ c.in-Some.later.now = search rules in
    let start = c.args.out.now.text.now.items ++ answers entries c.args.asked.now in (
      c.in_err-send_answer.ensures.0 ∙ c.answers.invariant.same_sink,
      stopped_so (at c.args.out.now) (at c.send_answer.new.out) start c.send_answer.new.out.text.now.items c.from_residual.result
          c.in_err-send_answer.field-0.0 c.from_residual.ensures.1
          (stopped_next (at c.args.out.now) (at c.answers.out) (at c.send_answer.new.out) start c.answers.out.text.now.items
          (answers entries c.answers.rest.now) line later c.in_err-send_answer.field-0.0 c.answers.invariant.handed
          (rw asked refl) c.in_err-send_answer.ensures.1),
    )
