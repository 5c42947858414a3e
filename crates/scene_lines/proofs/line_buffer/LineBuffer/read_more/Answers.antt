-- The buffer is written to twice, where room is made and by the read. The ranges of the line and of the bytes held stay
-- through both, and what was read stands behind them.
use Rattle.std.proofs.Common.{◌≡◌, arith, ap, sym, ◌∙◌}
use Rattle.std.proofs.lemmas.Bool.Decides.{nat_tests}
use Rattle.std.proofs.lemmas.List.{take_at}
use Rattle.std.proofs.lemmas.Result.{err_from_is_err_and}
use Rattle.scene_lines.proofs.Ranges.{range_through, coming_read, kept_read, none_read, coming_same, kept_same}
use Rattle.scene_lines.proofs.line_buffer.LineBuffer.read_more.Goals as goal

pub returns-in_err-count-clause-line : goal.returns-in_err-count-clause-line
returns-in_err-count-clause-line g c =
    range_through _ _ _ _ _ _ _ _ _ _ _ _ c.deref_mut.ensures.value
    (c.make_room-self-inside.auto.bytes ∙ c.deref_mut.ensures.len) c.make_room-self-inside.ensures.line
    c.deref_mut-2.ensures.value (c.fill.auto.bytes ∙ c.deref_mut-2.ensures.len) c.fill.ensures.kept
    (omega (arith, c.make_room-self-inside.ensures.laid_out)) ∙ ap (λ b. b.line) c.self.view_is

pub returns-in_err-count-clause-coming : goal.returns-in_err-count-clause-coming
returns-in_err-count-clause-coming g c =
    coming_same _ _ _ _ (range_through _ _ _ _ _ _ _ _ _ _ _ _ c.deref_mut.ensures.value
    (c.make_room-self-inside.auto.bytes ∙ c.deref_mut.ensures.len) c.make_room-self-inside.ensures.held
    c.deref_mut-2.ensures.value (c.fill.auto.bytes ∙ c.deref_mut-2.ensures.len) c.fill.ensures.kept
    (omega (arith, c.make_room-self-inside.ensures.laid_out)) ∙ ap (λ b. b.held) c.self.view_is) c.in_err-count.ensures.next

pub returns-in_err-count-clause-kept : goal.returns-in_err-count-clause-kept
returns-in_err-count-clause-kept g c =
    kept_same _ _ (range_through _ _ _ _ _ _ _ _ _ _ _ _ c.deref_mut.ensures.value
    (c.make_room-self-inside.auto.bytes ∙ c.deref_mut.ensures.len) c.make_room-self-inside.ensures.held
    c.deref_mut-2.ensures.value (c.fill.auto.bytes ∙ c.deref_mut-2.ensures.len) c.fill.ensures.kept
    (omega (arith, c.make_room-self-inside.ensures.laid_out)) ∙ ap (λ b. b.held) c.self.view_is)

pub returns-in_err-count-clause-err : goal.returns-in_err-count-clause-err
returns-in_err-count-clause-err g c =
    let p = err_from_is_err_and c.from_residual.result c.from_residual.ensures.1 in
    rw p.1 (
      range_through _ _ _ _ _ _ _ _ _ _ _ _ c.deref_mut.ensures.value
          (c.make_room-self-inside.auto.bytes ∙ c.deref_mut.ensures.len) c.make_room-self-inside.ensures.held
          c.deref_mut-2.ensures.value (c.fill.auto.bytes ∙ c.deref_mut-2.ensures.len) c.fill.ensures.kept
          (omega (arith, c.make_room-self-inside.ensures.laid_out)) ∙ ap (λ b. b.held) c.self.view_is,
      c.in_err-count.ensures.fault ∙ sym c.requires.unended,
    )

pub returns-clause-line : goal.returns-clause-line
returns-clause-line g c =
    range_through _ _ _ _ _ _ _ _ _ _ _ _ c.deref_mut.ensures.value
    (c.make_room-self-inside.auto.bytes ∙ c.deref_mut.ensures.len) c.make_room-self-inside.ensures.line
    c.deref_mut-2.ensures.value (c.fill.auto.bytes ∙ c.deref_mut-2.ensures.len) c.fill.ensures.kept
    (omega (arith, c.make_room-self-inside.ensures.laid_out)) ∙ ap (λ b. b.line) c.self.view_is

pub returns-clause-coming : goal.returns-clause-coming
returns-clause-coming g c =
    coming_read _ c.fill.new.bytes _ _ _ _ _ _ (take_at _ _ _ (c.fill.auto.bytes ∙ c.deref_mut-2.ensures.len)) c.make_room-self-inside.ensures.laid_out.held
    (range_through _ _ _ _ _ _ _ _ _ _ _ _ c.deref_mut.ensures.value
    (c.make_room-self-inside.auto.bytes ∙ c.deref_mut.ensures.len) c.make_room-self-inside.ensures.held
    c.deref_mut-2.ensures.value (c.fill.auto.bytes ∙ c.deref_mut-2.ensures.len) c.fill.ensures.kept
    (omega (arith, c.make_room-self-inside.ensures.laid_out)) ∙ ap (λ b. b.held) c.self.view_is) c.in_ok-count.ensures.next

pub returns-clause-kept : goal.returns-clause-kept
returns-clause-kept g c = kept_read _ _ _ _ _ c.make_room-self-inside.ensures.laid_out.held (range_through _ _ _ _ _ _ _ _ _ _ _ _ c.deref_mut.ensures.value
    (c.make_room-self-inside.auto.bytes ∙ c.deref_mut.ensures.len) c.make_room-self-inside.ensures.held
    c.deref_mut-2.ensures.value (c.fill.auto.bytes ∙ c.deref_mut-2.ensures.len) c.fill.ensures.kept
    (omega (arith, c.make_room-self-inside.ensures.laid_out)) ∙ ap (λ b. b.held) c.self.view_is)

pub returns-clause-end : goal.returns-clause-end
returns-clause-end g c none =
    let nothing : c.in_ok-count.count ≡ 0 = grind (arith, nat_tests) in
    none_read _ _ _ _ _ c.make_room-self-inside.ensures.laid_out.held (range_through _ _ _ _ _ _ _ _ _ _ _ _ c.deref_mut.ensures.value
    (c.make_room-self-inside.auto.bytes ∙ c.deref_mut.ensures.len) c.make_room-self-inside.ensures.held
    c.deref_mut-2.ensures.value (c.fill.auto.bytes ∙ c.deref_mut-2.ensures.len) c.fill.ensures.kept
    (omega (arith, c.make_room-self-inside.ensures.laid_out)) ∙ ap (λ b. b.held) c.self.view_is) nothing
