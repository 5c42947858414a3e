-- A number above 0 moved by 32 places or more is stopped.
use Rattle.std.proofs.Common.{sym, arith}
use Rattle.std.proofs.Math.Nat.{min-eq_right}
use Rattle.float_bounds.proofs.Scaling.{far_up}
use Rattle.float_bounds.proofs.scale.multiplied.Goals as goal

pub returns-then-by-ge32 : goal.returns-then-by-ge32
returns-then-by-ge32 c = sym (min-eq_right (far_up c.args.number c.args.by (omega arith) (omega arith)))
