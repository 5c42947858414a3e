-- The line is a range at the front of the bytes held, and what stays is the range past its line feed.
use Rattle.std.proofs.Common.{◌≡◌, min, ◌+◌, ◌-◌, ◌≤◌, length, take, drop, sym, ap, ◌∙◌, arith, slice_range}
use Rattle.std.proofs.lemmas.List.{length-take}
use Rattle.scene_lines.specs.SceneLines.{line_ahead, past_line}
use Rattle.scene_lines.proofs.Cutting.{length_ahead-within}
use Rattle.scene_lines.proofs.Ranges.{range_front, range_back}
use Rattle.scene_lines.proofs.line_buffer.LineBuffer.hand_out.Goals as goal

pub returns : goal.returns
returns c =
    let bytes = c.self.inside.bytes.items in
    let at = c.self.inside.layout.at in
    let end = c.self.inside.layout.end in
    let laid_out = c.self.invariant.1 in
    let held : slice_range bytes at end ≡ c.args.self.now.held = ap (λ b. b.held) c.self.view_is in
    let within : at + c.line_len-line_len.result ≤ end =
    omega (
      arith,
      laid_out,
      c.line_len-line_len.ensures.within,
      length_ahead-within c.args.self.now.held,
      c.requires.ahead,
      ap length held,
      length-take
          (end - at) (drop at bytes),
    ) in
    let line : slice_range bytes at (at + c.line_len-line_len.result) ≡ line_ahead c.args.self.now.held =
    range_front bytes at end c.line_len-line_len.result within ∙ ap (take c.line_len-line_len.result) (held ∙ sym c.held.ensures.value)
    ∙ c.line_len-line_len.ensures.line ∙ ap line_ahead c.held.ensures.value in
    let place : c.min.result ≡ min (at + c.args.len + 1) end = omega (arith, c.min.ensures) in
    let rest : slice_range bytes c.min.result end ≡ past_line c.args.self.now.held =
    ap (λ from. slice_range bytes from end) place ∙ range_back bytes at end c.args.len laid_out.held ∙ ap (drop (c.args.len + 1)) held
    ∙ ap (λ n. drop (n + 1) c.args.self.now.held) c.requires.ahead in
    let over : c.self.inside.over ≡ c.args.self.now.over = ap (λ b. b.over) c.self.view_is in
    cc
