use Rattle.std.proofs.Common.{◌≡◌, ◌+◌, ◌-◌, ◌<◌, ◌≤◌, true, [], length, cond, IfSome}
use Rattle.scene_lines.specs.Reading.{coming}
use Rattle.scene_lines.specs.declared.TheConstants.{BUFFER_LEN}
use Rattle.scene_lines.specs.SceneLines.{has_feed, length_ahead}
use Rattle.scene_lines.proofs.line_buffer.LineBuffer.seek.Given as goal

-- What was read is held, and nothing was read where the bytes held settled the answer.
abbrev pub invariant-reads : goal.invariant-reads
invariant-reads g l = record {
  ahead : l.len ≡ length_ahead l.self.held;
  small : length l.self.held ≤ BUFFER_LEN;
  coming : coming l.self.held (g.S.Source.left l.source) ≡ coming l.fn.self.held (g.S.Source.left l.fn.source);
  line : l.self.line ≡ l.fn.self.line;
  at_end : l.self.over ≡ true → IfSome (g.S.Source.left l.source) (λ left. left ≡ []);
  over : l.fn.self.over ≡ true → (l.source ≡ l.fn.source) × (l.self ≡ l.fn.self);
  found : has_feed l.fn.self.held ≡ true → (l.source ≡ l.fn.source) × (l.self ≡ l.fn.self);
  enough : l.most < length l.fn.self.held → (l.source ≡ l.fn.source) × (l.self ≡ l.fn.self);
  count : g.S.Source.faults l.source ≡ g.S.Source.faults l.fn.source;
}

-- each read takes a byte or ends the input
abbrev pub decreases-reads : goal.decreases-reads
decreases-reads g l = BUFFER_LEN - length l.self.held + cond l.self.over 0 1
