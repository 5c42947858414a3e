-- Rounded up, a shift by 64 places or more leaves 1 of what is above 0.
use Rattle.std.proofs.Common.{◌≡◌, ◌^◌, min, ap, arith}
use Rattle.std.specs.Int.{div_ceil}
use Rattle.float_bounds.proofs.Scaling.{all_left}
use Rattle.float_bounds.proofs.scale.divided_up.Goals as goal

pub returns-then-by-ge64 : goal.returns-then-by-ge64
returns-then-by-ge64 c =
    let left : div_ceil c.args.number (2 ^ c.args.by) ≡ min c.args.number 1 = all_left c.args.number c.args.by (omega arith) (omega arith) in
    omega (arith, ap (λ q. min q (2 ^ 32)) left)
