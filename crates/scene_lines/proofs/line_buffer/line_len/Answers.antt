-- The first line feed stands within the bytes.
use Rattle.std.proofs.Common.{arith}
use Rattle.scene_lines.proofs.Cutting.{length_ahead-within}
use Rattle.scene_lines.proofs.line_buffer.line_len.Goals as goal

pub split_at-requires : goal.split_at-requires
split_at-requires c = omega (arith, c.requires, length_ahead-within c.args.bytes.now)
