-- Serves proofs alone: where the last line and the bytes held stand in the buffer of a reader of lines.
use Rattle.std.specs.Prelude.{◌+◌, ◌≤◌}
use Rattle.scene_lines.specs.declared.layout.Layout.{Layout}
use Rattle.scene_lines.specs.declared.TheConstants.{LONGEST_LINE, BUFFER_LEN}

-- The last line is no longer than a line may be. The bytes held begin past its end, which has at most two.
pub record IsLaidOut (l : Layout) : Type 0 where
  pub line : l.line_start ≤ l.line_end
  pub short : l.line_end ≤ l.line_start + LONGEST_LINE
  pub past : l.line_end ≤ l.at
  pub near : l.at ≤ l.line_start + (LONGEST_LINE + 2)
  pub held : l.at ≤ l.end
  pub fits : l.end ≤ BUFFER_LEN
