-- A shift by 64 places or more leaves nothing.
use Rattle.std.proofs.Common.{◌≡◌, ◌/◌, ◌^◌, min, sym, ap, arith}
use Rattle.float_bounds.proofs.Scaling.{none_left}
use Rattle.float_bounds.proofs.scale.divided.Goals as goal

pub returns-then-by-ge64 : goal.returns-then-by-ge64
returns-then-by-ge64 c =
    let none : c.args.number / 2 ^ c.args.by ≡ 0 = none_left c.args.number c.args.by (omega arith) (omega arith) in
    sym (ap (λ q. min q (2 ^ 32)) none)
