-- A read is made only where the bytes held settle nothing. So where they did at first, or the input was over, none is.
use Rattle.std.proofs.Common.{arith, ap, sym, ◌∙◌, length, ⊎_elim}
use Rattle.std.proofs.lemmas.Bool.{false≢true, cases_lt}
use Rattle.std.proofs.lemmas.Result.{err_from_is_err_and}
use Rattle.scene_lines.specs.Reading.{Buffered}
use Rattle.scene_lines.specs.SceneLines.{length_ahead, has_feed}
use Rattle.scene_lines.proofs.Cutting.{no_feed_below, seen_within}
use Rattle.scene_lines.proofs.line_buffer.LineBuffer.seek.Goals as goal

pub returns-in_err-read_more-clause-unsettled : goal.returns-in_err-read_more-clause-unsettled
returns-in_err-read_more-clause-unsettled g c =
    let p = err_from_is_err_and c.from_residual.result c.from_residual.ensures.1 in
    let same = c.in_err-read_more.ensures.err.0 in
    let unsettled = c.is_unsettled.ensures.0 c.reads-test.true in
    rw p.1 (ap has_feed same ∙ unsettled.0, omega (arith, ap length same, unsettled.2))

pub returns-in_err-read_more-clause-found : goal.returns-in_err-read_more-clause-found
returns-in_err-read_more-clause-found g c h =
    let held = ap (λ (b : Buffered). b.held) (c.reads.invariant.found h).1 in
    absurd (false≢true (sym (c.is_unsettled.ensures.0 c.reads-test.true).0 ∙ ap has_feed held ∙ h))

pub place_of_feed-len-requires-in-reads : goal.place_of_feed-len-requires-in-reads
place_of_feed-len-requires-in-reads g c =
    let all = no_feed_below c.reads.self.held (c.is_unsettled.ensures.0 c.reads-test.true).0 in
    let within = seen_within c.reads.self.held c.read_more.new.self.held c.read_more.ensures.kept all in
    omega (arith, within, all, c.reads.invariant.ahead, ap length_ahead c.held-in-reads.ensures.value)

pub reads-preserved : goal.reads-preserved
reads-preserved g c =
    let unsettled = c.is_unsettled.ensures.0 c.reads-test.true in
    record {
      ahead = c.place_of_feed-len-in-reads.ensures ∙ ap length_ahead c.held-in-reads.ensures.value;
      small = c.read_more.ensures.small;
      coming = c.read_more.ensures.coming ∙ c.reads.invariant.coming;
      line = c.read_more.ensures.line ∙ c.reads.invariant.line;
      at_end = c.in_ok-read_more.ensures.at_end;
      over = λ h. absurd (false≢true (sym unsettled.1 ∙ ap (λ (b : Buffered). b.over) (c.reads.invariant.over h).1 ∙ h));
      found = λ h. absurd (false≢true (sym unsettled.0 ∙ ap (λ (b : Buffered). has_feed b.held) (c.reads.invariant.found h).1 ∙ h));
      enough = λ h. absurd (omega (arith, ap (λ (b : Buffered). length b.held) (c.reads.invariant.enough h).1, unsettled.2));
      count = c.in_ok-read_more.ensures.count ∙ c.reads.invariant.count;
    }

pub returns-clause-settled : goal.returns-clause-settled
returns-clause-settled g c none going_on =
    ⊎_elim (λ many. many) (λ few. absurd (false≢true (sym c.reads-test.false ∙ c.is_unsettled.ensures.1 (none, going_on, few))))
    (cases_lt c.args.most (length c.reads.self.held))
